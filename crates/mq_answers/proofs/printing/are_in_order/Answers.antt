use Rattle.std.proofs.Common.{length, refl, arith}
use Rattle.mq_answers.proofs.NumberLemmas.{at_its_place, in_order}
use Rattle.mq_answers.proofs.printing.are_in_order.Goals as goal

pub returns-then-number-next : goal.returns-then-number-next
returns-then-number-next c =
    let numbers = c.args.numbers.now in
    let i = c.loop-number.number-index in
    (λ e. absurd (cc), λ e. let h = at_its_place numbers (length numbers) i e (omega arith) in absurd (omega arith))

pub returns : goal.returns
returns c = (λ e. in_order c.args.numbers.now (λ k l. c.loop-number.invariant.1 k (omega arith)), λ e. refl)
