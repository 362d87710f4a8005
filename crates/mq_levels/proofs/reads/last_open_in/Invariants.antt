use Rattle.std.proofs.Common.{◌≤◌, take}
use Rattle.mq_levels.specs.Places.{IsLeft}
use Rattle.mq_levels.proofs.reads.last_open_in.Given as goal

abbrev pub invariant-loop-left : goal.invariant-loop-left
invariant-loop-left l = (l.left ≤ l.count) × IsLeft l.numbers (take l.count l.list) (take l.left l.list)

abbrev pub decreases-loop-left : goal.decreases-loop-left
decreases-loop-left l = l.left
