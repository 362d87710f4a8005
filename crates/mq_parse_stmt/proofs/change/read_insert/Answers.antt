use Rattle.std.proofs.Common.{◌∷◌, Ok, Err, refl, ap}
use Rattle.mq_lexer.specs.declared.keywords.Keyword.TheVariants as word
use Rattle.mq_ast.specs.Prelude.{ChangeE, Word, change_insert}
use Rattle.mq_parse_stmt.proofs.PieceLemmas.{word_named}
use Rattle.mq_parse_stmt.proofs.LastLemmas.{read_all, last_rows}
use Rattle.mq_parse_stmt.proofs.WholeLemmas.{leave, tree_at}
use Rattle.mq_parse_stmt.proofs.ChangeLemmas.{insert_no_name, insert_no_values, insert_no_rows}
use Rattle.mq_parse_stmt.proofs.change.read_insert.Goals as goal

pub returns-in_err-name : goal.returns-in_err-name
returns-in_err-name c =
    leave ChangeE c.from_residual.result c.in_err-name.field-0.0 c.from_residual.ensures.1 refl c.in_err-name.ensures insert_no_name

pub returns-in_err-cols : goal.returns-in_err-cols
returns-in_err-cols c =
    leave ChangeE c.from_residual-in_err-cols.result c.in_err-cols.field-0.0 c.from_residual-in_err-cols.ensures.1 (ap (λ r. Word word.Insert ∷ r) (word_named c.in_ok-name.ensures.2)) c.in_err-cols.ensures insert_no_values

pub returns-in_err-rows : goal.returns-in_err-rows
returns-in_err-rows c =
    leave ChangeE c.from_residual-in_err-rows.result c.in_err-rows.field-0.0 c.from_residual-in_err-rows.ensures.1 (ap (λ r. Word word.Insert ∷ r) (word_named c.in_ok-name.ensures.2)) (read_all last_rows c.args.t.now c.in_ok-cols.values c.read_list.result (Err c.in_err-rows.field-0.0) c.read_list.ensures c.in_err-rows.ensures) (insert_no_rows c.in_ok-cols.ensures.2)

pub returns : goal.returns
returns c =
    tree_at ChangeE refl (ap (λ r. Word word.Insert ∷ r) (word_named c.in_ok-name.ensures.2)) (change_insert c.in_ok-cols.ensures.2 (read_all last_rows c.args.t.now c.in_ok-cols.values c.read_list.result (Ok c.in_ok-rows.rows) c.read_list.ensures c.in_ok-rows.ensures))
