use Rattle.std.proofs.Common.{◌≡◌, ◌≢◌, ◌+◌, ◌<◌, Some, Greater, get_or, length, slice_get, sym, subst, ap, ◌∙◌}
use Rattle.std.specs.Option.{option_copied}
use Rattle.std.specs.Ordering.{is_gt}
use Rattle.std.proofs.lemmas.List.{get_or_read}
use Rattle.mq_values.specs.declared.value.Value.{Value}
use Rattle.mq_dim_index.specs.Runs.{IsLeastSoFar, cmp_bound, cmp_by_worth}
use Rattle.mq_dim_index.proofs.LeastLemmas.{first_least, gt_is, keeps_least, not_gt, still_least, takes_least}
use Rattle.mq_dim_index.proofs.runs.lesser.Goals as goal
use Rattle.mq_dim_index.proofs.runs.lesser.Goals.{then-is_gt-2, else-is_gt-2}

pub returns-then-is_gt : goal.returns-then-is_gt
returns-then-is_gt c ws i l is before =
    let own = slice_get c.args.key.now c.args.dimension in
    let w = c.args.w.now in
    let past : cmp_bound own w ≡ Greater = gt_is (cmp_bound own w) (sym (ap is_gt c.cmp_there.ensures) ∙ sym c.is_gt.ensures ∙ c.if-is_gt.true) in
    still_least ws own i w (λ d m. get_or_read ws i w m is d) l (option_copied c.args.found) past before

pub returns-in-None : goal.returns-in-None
returns-in-None c ws i l is before =
    let own = slice_get c.args.key.now c.args.dimension in
    let w = c.args.w.now in
    let ahead : cmp_bound own w ≢ Greater = not_gt (cmp_bound own w) (sym (ap is_gt c.cmp_there.ensures) ∙ sym c.is_gt.ensures ∙ c.if-is_gt.false) in
    first_least ws own i w (λ d m. get_or_read ws i w m is d) l ahead (subst (λ o. IsLeastSoFar ws own i (option_copied o)) c.in-None.is before)

pub returns-after-is_gt-2 : goal.returns-after-is_gt-2
returns-after-is_gt-2 c ws i l is before =
    let own = slice_get c.args.key.now c.args.dimension in
    let w = c.args.w.now in
    let least = c.in-Some.least.now in
    let same : (d : Value) → i < length ws → w ≡ get_or ws i d = λ d m. get_or_read ws i w m is d in
    let ahead : cmp_bound own w ≢ Greater = not_gt (cmp_bound own w) (sym (ap is_gt c.cmp_there.ensures) ∙ sym c.is_gt.ensures ∙ c.if-is_gt.false) in
    let found : IsLeastSoFar ws own i (Some least) = subst (λ o. IsLeastSoFar ws own i (option_copied o)) c.in-Some.is before in
    elim c.if-is_gt-2.branch [
      | then-is_gt-2 v ↦
          let past : cmp_by_worth least w ≡ Greater = gt_is (cmp_by_worth least w) (sym (ap is_gt c.cmp_by_worth.ensures) ∙ sym c.is_gt-in-Some.ensures ∙ v.if-is_gt-2.true) in
          subst (λ b. IsLeastSoFar ws own (i + 1) (Some b.now)) (sym v.result-is) (takes_least ws own i w same l least past ahead found)
      | else-is_gt-2 v ↦
          let up_to : cmp_by_worth least w ≢ Greater = not_gt (cmp_by_worth least w) (sym (ap is_gt c.cmp_by_worth.ensures) ∙ sym c.is_gt-in-Some.ensures ∙ v.if-is_gt-2.false) in
          subst (λ b. IsLeastSoFar ws own (i + 1) (Some b.now)) (sym v.result-is) (keeps_least ws own i w same l least up_to found)
    ]
