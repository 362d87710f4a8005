use Rattle.std.proofs.Common.{◌≡◌, ◌+◌, ◌∷◌, [], ◌++◌, sym, ap, ◌∙◌, add-one, arith}
use Rattle.std.specs.List.{range_with_len}
use Rattle.mq_group.proofs.KeyLemmas.{one_number_more}
use Rattle.mq_group.proofs.grouping.all_rows.Goals as goal

pub loop-place-preserved : goal.loop-place-preserved
loop-place-preserved c =
    let place = c.loop-place.place in
    let same : place ≡ 0 + place = omega arith in
    c.in_ok-push.ensures.ok
    ∙ (λ i. c.loop-place.invariant i ++ same i ∷ [])
    ∙ sym (one_number_more 0 place)
    ∙ ap (range_with_len 0) (sym (add-one place))
