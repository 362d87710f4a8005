use Rattle.std.proofs.Common.{◌∷◌, Ok, Err, refl, ap}
use Rattle.mq_lexer.specs.declared.keywords.Keyword.TheVariants as word
use Rattle.mq_ast.specs.Prelude.{ChangeE, Word, change_delete}
use Rattle.mq_parse_stmt.proofs.PieceLemmas.{word_named}
use Rattle.mq_parse_stmt.proofs.LastLemmas.{read_all, last_where}
use Rattle.mq_parse_stmt.proofs.WholeLemmas.{leave, tree_at}
use Rattle.mq_parse_stmt.proofs.ChangeLemmas.{delete_no_name, delete_no_where}
use Rattle.mq_parse_stmt.proofs.change.read_delete.Goals as goal

pub returns-in_err-name : goal.returns-in_err-name
returns-in_err-name c =
    leave ChangeE c.from_residual.result c.in_err-name.field-0.0 c.from_residual.ensures.1 refl c.in_err-name.ensures delete_no_name

pub returns-in_err-filter : goal.returns-in_err-filter
returns-in_err-filter c =
    leave ChangeE c.from_residual-in_err-filter.result c.in_err-filter.field-0.0 c.from_residual-in_err-filter.ensures.1 (ap (λ r. Word word.Delete ∷ r) (word_named c.in_ok-name.ensures.2)) (read_all last_where c.args.t.now c.in_ok-name.mid c.read_where.result (Err c.in_err-filter.field-0.0) c.read_where.ensures c.in_err-filter.ensures) delete_no_where

pub returns : goal.returns
returns c =
    tree_at ChangeE refl (ap (λ r. Word word.Delete ∷ r) (word_named c.in_ok-name.ensures.2)) (change_delete (read_all last_where c.args.t.now c.in_ok-name.mid c.read_where.result (Ok c.in_ok-filter.filter) c.read_where.ensures c.in_ok-filter.ensures))
