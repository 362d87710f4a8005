use Rattle.std.proofs.Common.{◌++◌, ◌∷◌, [], sym, ap, ◌∙◌}
use Rattle.mq_cells.proofs.NumberLemmas.{next_number}
use Rattle.mq_cells.proofs.numbers.numbers_below.Goals as goal

pub loop-number-preserved : goal.loop-number-preserved
loop-number-preserved c =
    let n = c.loop-number.number in
    c.in_ok-push.ensures.items ∙ ap (λ numbers. numbers ++ n ∷ []) c.loop-number.invariant ∙ sym (next_number n)
