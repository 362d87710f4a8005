use Rattle.std.proofs.Common.{◌∷◌, Ok, Err, refl, ap}
use Rattle.mq_lexer.specs.declared.keywords.Keyword.TheVariants as word
use Rattle.mq_ast.specs.Prelude.{StmtE, Word, stmt_show}
use Rattle.mq_parse_words.specs.NameLemmas.{named}
use Rattle.mq_parse_stmt.proofs.LastLemmas.{read_all, last_name}
use Rattle.mq_parse_stmt.proofs.WholeLemmas.{leave, tree_at}
use Rattle.mq_parse_stmt.proofs.StmtLemmas.{show_no_name}
use Rattle.mq_parse_stmt.proofs.statement.read_show.Goals as goal

pub returns-in_err-name : goal.returns-in_err-name
returns-in_err-name c =
    leave StmtE c.from_residual.result c.in_err-name.field-0.0 c.from_residual.ensures.1 refl (read_all last_name c.args.t.now c.args.at c.read_name.result (Err c.in_err-name.field-0.0) c.read_name.ensures c.in_err-name.ensures) show_no_name

pub returns : goal.returns
returns c =
    tree_at StmtE refl (ap (λ r. Word word.Show ∷ r) (named (read_all last_name c.args.t.now c.args.at c.read_name.result (Ok c.in_ok-name.name) c.read_name.ensures c.in_ok-name.ensures))) stmt_show
