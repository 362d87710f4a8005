use Rattle.std.proofs.Common.{◌≡◌, ◌++◌, true, drop, length, take, sym, ap, subst, ◌∙◌, rules}
use Rattle.std.proofs.Math.Seq.{take-append_seam}
use Rattle.std.specs.List.{All}
use Rattle.mq_ir.specs.Unfolding.{model_of}
use Rattle.mq_kept.specs.Kept.{IsRight, inputs_of}
use Rattle.mq_kept.specs.Renewed.{MayRenew}
use Rattle.mq_kept.proofs.beside.renewed_beside.Goals as goal

pub renew_lent-requires-clause-may : goal.renew_lent-requires-clause-may
renew_lent-requires-clause-may c =
    subst (MayRenew c.args.m.now.part.now c.args.change.now) (sym (ap inputs_of c.as_mut_slice.ensures.value ∙ c.in_ok-lent.ensures.same)) c.requires.may

pub renew_lent-requires-clause-right : goal.renew_lent-requires-clause-right
renew_lent-requires-clause-right c =
    subst (All (IsRight (model_of c.args.m.now))) (sym c.as_mut_slice.ensures.value) (c.in_ok-lent.ensures.right (model_of c.args.m.now) c.requires.right)

-- what is lent as a slice is written back whole
pub returns-clause-renewed : goal.returns-clause-renewed
returns-clause-renewed c =
    let made = c.in_ok-lent.lent in
    let new = c.renew_lent.new.parts in
    let long : made.len ≡ length new = sym (c.renew_lent.auto.parts ∙ c.as_mut_slice.ensures.len) in
    let whole : take made.len (new ++ drop (length new) made.items) ≡ new =
    ap (λ n. take n (new ++ drop (length new) made.items)) long ∙ take-append_seam new (drop (length new) made.items) in
    λ before after is change.
    ap inputs_of whole
    ∙ c.in_ok-renew_lent.ensures.renewed before after (ap inputs_of c.as_mut_slice.ensures.value ∙ c.in_ok-lent.ensures.same ∙ is) change (search rules)
