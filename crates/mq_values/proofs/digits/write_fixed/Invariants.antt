use Rattle.std.proofs.Common.{◌≡◌, ◌-◌, ◌≤◌, ◌++◌, length, drop}
use Rattle.mq_values.specs.Number.{fixed_digits}
use Rattle.mq_values.proofs.digits.write_fixed.Given as goal

abbrev pub invariant-loop-at : goal.invariant-loop-at
invariant-loop-at l = record {
  above : l.start ≤ l.at;
  within : l.at ≤ 56;
  room : length l.buffer ≡ 56;
  text : fixed_digits (l.at - l.start) l.left ++ drop l.at l.buffer ≡ fixed_digits l.fn.count l.fn.part;
}

abbrev pub decreases-loop-at : goal.decreases-loop-at
decreases-loop-at l = l.at
