use Rattle.std.proofs.Common.{◌≡◌, ◌-◌}
use Rattle.mq_auto_shape.specs.LaneRuns.{numbers_between, numbers_in}
use Rattle.mq_auto_shape.proofs.lane_reads.first_of.Given as goal

abbrev pub invariant-looking : goal.invariant-looking
invariant-looking l = numbers_between l.numbers.lanes l.run.measure l.at l.run.past ≡ numbers_in l.numbers.lanes l.run

abbrev pub decreases-looking : goal.decreases-looking
decreases-looking l = l.run.past - l.at
