use Rattle.std.proofs.Common.{◌≡◌, ℕ, ◌<◌, get_or}
use Rattle.mq_answers.proofs.printing.are_in_order.Given as goal

-- each number so far is its place
abbrev pub invariant-loop-number : goal.invariant-loop-number
invariant-loop-number l = (l.next ≡ l.number-index) × ((k : ℕ) → k < l.number-index → get_or l.numbers k 0 ≡ k)
