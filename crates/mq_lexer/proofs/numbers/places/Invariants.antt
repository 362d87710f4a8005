use Rattle.std.proofs.Common.{◌≡◌, length}
use Rattle.mq_lexer.specs.Numbers.{places}
use Rattle.mq_lexer.proofs.numbers.places.Given as goal

abbrev pub invariant-loop-number : goal.invariant-loop-number
invariant-loop-number l = places l.number ≡ places l.initial.number

abbrev pub decreases-loop-number : goal.decreases-loop-number
decreases-loop-number l = length l.number
