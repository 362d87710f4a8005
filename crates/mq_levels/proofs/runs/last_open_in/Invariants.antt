use Rattle.std.proofs.Common.{◌≤◌, length}
use Rattle.mq_levels.specs.Places.{IsLeft}
use Rattle.mq_levels.specs.Runs.{left_of}
use Rattle.mq_levels.proofs.runs.last_open_in.Given as goal

abbrev pub invariant-loop-at : goal.invariant-loop-at
invariant-loop-at l = (l.at.whole ≤ length l.runs) × IsLeft l.numbers (left_of l.runs l.fn.place) (left_of l.runs l.at)

abbrev pub decreases-loop-at : goal.decreases-loop-at
decreases-loop-at l = l.at.whole
