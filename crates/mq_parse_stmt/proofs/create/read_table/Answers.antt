use Rattle.std.proofs.Common.{◌∷◌, Ok, Err, refl, ap}
use Rattle.mq_lexer.specs.declared.keywords.Keyword.TheVariants as word
use Rattle.mq_ast.specs.Prelude.{StmtE, Word}
use Rattle.mq_parse_words.specs.NameLemmas.{named}
use Rattle.mq_parse_stmt.proofs.LastLemmas.{read_all, last_body}
use Rattle.mq_parse_stmt.proofs.WholeLemmas.{leave, tree_at}
use Rattle.mq_parse_stmt.proofs.StmtLemmas.{table_no_name, table_no_body, table_read}
use Rattle.mq_parse_stmt.proofs.create.read_table.Goals as goal

pub returns-in_err-name : goal.returns-in_err-name
returns-in_err-name c =
    leave StmtE c.from_residual.result c.in_err-name.field-0.0 c.from_residual.ensures.1 refl c.in_err-name.ensures table_no_name

pub returns-in_err-body : goal.returns-in_err-body
returns-in_err-body c =
    leave StmtE c.from_residual-in_err-body.result c.in_err-body.field-0.0 c.from_residual-in_err-body.ensures.1 (ap (λ r. Word word.Create ∷ Word word.Table ∷ r) (named c.in_ok-name.ensures.2)) (read_all last_body c.args.t.now c.in_ok-name.mid c.read_body.result (Err c.in_err-body.field-0.0) c.read_body.ensures c.in_err-body.ensures) table_no_body

pub returns : goal.returns
returns c =
    tree_at StmtE c.table.ensures (ap (λ r. Word word.Create ∷ Word word.Table ∷ r) (named c.in_ok-name.ensures.2)) (table_read (read_all last_body c.args.t.now c.in_ok-name.mid c.read_body.result (Ok c.in_ok-body.body) c.read_body.ensures c.in_ok-body.ensures))
