use Rattle.std.proofs.Common.{◌≤◌, length}
use Rattle.mq_levels.specs.Places.{IsLeft}
use Rattle.mq_auto_shape.specs.LaneRuns.{left_of}
use Rattle.mq_auto_shape.proofs.lane_reads.last_open_in.Given as goal

abbrev pub invariant-looking : goal.invariant-looking
invariant-looking l = (l.at.whole ≤ length l.runs) × IsLeft l.rounds (left_of l.numbers.lanes l.runs l.fn.place) (left_of l.numbers.lanes l.runs l.at)

abbrev pub decreases-looking : goal.decreases-looking
decreases-looking l = l.at.whole
