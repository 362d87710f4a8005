use Rattle.std.proofs.Common.{[], map, sym, subst, ◌∙◌}
use Rattle.std.specs.List.Sorted.{IsStrictlySortedBy}
use Rattle.std.proofs.lemmas.List.Kept.{IsStrictlySortedBy-filter}
use Rattle.std.proofs.lemmas.Result.{IfOk-weaker}
use Rattle.mq_dim_index.specs.Places.{meets_every}
use Rattle.mq_targets.specs.Choice.{key_at}
use Rattle.mq_values.specs.Order.{cmp_key}
use Rattle.mq_targets.proofs.choosing.keys_meeting.Goals as goal

pub returns-clause-found : goal.returns-clause-found
returns-clause-found c =
    IfOk-weaker c.copies_at.result _ _
    (λ found e. e ∙ (λ i. map (key_at (c.keys.ensures.all i)) (c.deref.ensures.value i)) ∙ c.in_ok-places.ensures.keys [])
    c.copies_at.ensures

pub returns-clause-ascending : goal.returns-clause-ascending
returns-clause-ascending c =
    IfOk-weaker c.copies_at.result _ _
    (λ found e.
    subst (IsStrictlySortedBy cmp_key) (sym (e ∙ (λ i. map (key_at (c.keys.ensures.all i)) (c.deref.ensures.value i)) ∙ c.in_ok-places.ensures.keys []))
    (IsStrictlySortedBy-filter cmp_key (meets_every c.args.tests.now) c.args.keys.now c.keys.ensures.ascending))
    c.copies_at.ensures
