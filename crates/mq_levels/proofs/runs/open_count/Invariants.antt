use Rattle.std.proofs.Common.{◌≤◌}
use Rattle.std.specs.List.{range_with_len}
use Rattle.mq_levels.specs.Places.{IsLeft}
use Rattle.mq_levels.proofs.runs.open_count.Given as goal

abbrev pub invariant-loop-left : goal.invariant-loop-left
invariant-loop-left l = (l.left ≤ l.count) × IsLeft l.numbers (range_with_len l.start l.count) (range_with_len l.start l.left)

abbrev pub decreases-loop-left : goal.decreases-loop-left
decreases-loop-left l = l.left
