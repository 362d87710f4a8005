use Rattle.mq_levels.specs.Places.{IsLeft}
use Rattle.mq_auto_shape.specs.LaneRuns.{numbers_between, numbers_in}
use Rattle.mq_auto_shape.proofs.lane_reads.last_open_of.Given as goal

abbrev pub invariant-looking : goal.invariant-looking
invariant-looking l = IsLeft l.rounds (numbers_in l.numbers.lanes l.run) (numbers_between l.numbers.lanes l.run.measure l.run.first l.past)

abbrev pub decreases-looking : goal.decreases-looking
decreases-looking l = l.past
