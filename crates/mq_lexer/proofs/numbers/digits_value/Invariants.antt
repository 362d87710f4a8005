use Rattle.std.proofs.Common.{◌≡◌, ◌≤◌, length}
use Rattle.std.specs.List.{fold}
use Rattle.mq_lexer.specs.Numbers.{with_digit}
use Rattle.mq_values.specs.declared.limits.TheConstants.{MAX_MANTISSA}
use Rattle.mq_lexer.proofs.numbers.digits_value.Given as goal

abbrev pub invariant-loop-number : goal.invariant-loop-number
invariant-loop-number l =
    (fold with_digit l.value l.number ≡ fold with_digit 0 l.initial.number) × (l.value ≤ MAX_MANTISSA)

abbrev pub decreases-loop-number : goal.decreases-loop-number
decreases-loop-number l = length l.number
