use Rattle.std.proofs.Common.{◌≡◌, ◌+◌, ◌≤◌, ◌++◌, length, drop}
use Rattle.std.specs.Fmt.{decimal}
use Rattle.mq_values.proofs.digits.write_whole.Given as goal

abbrev pub invariant-loop-left : goal.invariant-loop-left
invariant-loop-left l = record {
  below : l.left ≤ l.fn.whole;
  within : l.at ≤ l.end;
  room : length l.buffer ≡ 56;
  size : l.at + length (decimal l.fn.whole) ≡ l.end + length (decimal l.left);
  text : decimal l.left ++ drop l.at l.buffer ≡ decimal l.fn.whole ++ drop l.end l.initial.buffer;
}

abbrev pub decreases-loop-left : goal.decreases-loop-left
decreases-loop-left l = l.left
