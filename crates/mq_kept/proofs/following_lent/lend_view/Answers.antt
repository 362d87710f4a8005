use Rattle.std.proofs.Common.{◌≡◌, Some, true, ap, sym, subst, ◌∙◌, rules}
use Rattle.std.specs.List.{All}
use Rattle.mq_kept.specs.Kept.{IsRight, inputs_of, model_in}
use Rattle.mq_kept.proofs.FollowLentLemmas.{lends}
use Rattle.mq_kept.proofs.following_lent.lend_view.Goals as goal

pub returns : goal.returns
returns c =
    let view = c.args.kept.now.view in
    let fresh : c.args.kept.now.fresh ≡ true = search rules in
    let has : view.lines ≡ Some c.in-Some._lines = search rules in
    λ tables q part stands.
    let kept = stands.kept fresh in
    lends tables q part view c.in-Some._lines has kept c.in_ok-lent_parts.field-0.items (c.in_ok-lent_parts.ensures.same ∙ ap inputs_of c.as_slice-parts.ensures)
    (c.in_ok-lent_parts.ensures.right (model_in part view) (subst (All (IsRight (model_in part view))) (sym c.as_slice-parts.ensures) kept.right))
