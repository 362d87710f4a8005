use Rattle.std.proofs.Common.{◌≡◌, ◌+◌, ◌∷◌, [], ◌++◌, sym, ap, ◌∙◌, add-one, arith}
use Rattle.std.specs.List.{range_with_len}
use Rattle.mq_binder.proofs.RangeLemmas.{range_on}
use Rattle.mq_binder.proofs.lists.all_columns.Goals as goal

pub loop-n-preserved : goal.loop-n-preserved
loop-n-preserved c =
    let n = c.loop-n.n in
    let same : n ≡ 0 + n = omega arith in
    c.in_ok-push.ensures.ok
    ∙ (λ i. c.loop-n.invariant i ++ same i ∷ [])
    ∙ sym (range_on 0 n)
    ∙ ap (range_with_len 0) (sym (add-one n))
