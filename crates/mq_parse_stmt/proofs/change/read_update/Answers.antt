use Rattle.std.proofs.Common.{◌∷◌, Ok, Err, refl, ap, ◌∙◌}
use Rattle.mq_lexer.specs.declared.keywords.Keyword.TheVariants as word
use Rattle.mq_ast.specs.Prelude.{ChangeE, Name, Word}
use Rattle.mq_parse_words.specs.NameLemmas.{named}
use Rattle.mq_parse_stmt.proofs.LastLemmas.{read_all, last_changes}
use Rattle.mq_parse_stmt.proofs.WholeLemmas.{leave, tree_at}
use Rattle.mq_parse_stmt.proofs.ChangeLemmas.{update_no_name, update_no_set, update_no_changes, update_read}
use Rattle.mq_parse_stmt.proofs.change.read_update.Goals as goal

pub returns-in_err-name : goal.returns-in_err-name
returns-in_err-name c =
    leave ChangeE c.from_residual.result c.in_err-name.field-0.0 c.from_residual.ensures.1 refl c.in_err-name.ensures update_no_name

pub returns-in_err-set : goal.returns-in_err-set
returns-in_err-set c =
    leave ChangeE c.from_residual-in_err-set.result c.in_err-set.field-0.0 c.from_residual-in_err-set.ensures.1 (ap (λ r. Word word.Update ∷ r) (named c.in_ok-name.ensures.2)) c.in_err-set.ensures update_no_set

pub returns-in_err-changes : goal.returns-in_err-changes
returns-in_err-changes c =
    leave ChangeE c.from_residual-in_err-changes.result c.in_err-changes.field-0.0 c.from_residual-in_err-changes.ensures.1 (ap (λ r. Word word.Update ∷ r) (named c.in_ok-name.ensures.2 ∙ ap (λ r. Name c.in_ok-name.name ∷ r) c.in_ok-set.ensures.2)) (read_all last_changes c.args.t.now c.in_ok-set.set c.read_changes.result (Err c.in_err-changes.field-0.0) c.read_changes.ensures c.in_err-changes.ensures) update_no_changes

pub returns : goal.returns
returns c =
    tree_at ChangeE c.update.ensures (ap (λ r. Word word.Update ∷ r) (named c.in_ok-name.ensures.2 ∙ ap (λ r. Name c.in_ok-name.name ∷ r) c.in_ok-set.ensures.2)) (update_read (read_all last_changes c.args.t.now c.in_ok-set.set c.read_changes.result (Ok c.in_ok-changes.changes) c.read_changes.ensures c.in_ok-changes.ensures))
