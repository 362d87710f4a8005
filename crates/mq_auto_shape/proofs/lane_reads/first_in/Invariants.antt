use Rattle.std.proofs.Common.{◌≡◌, drop}
use Rattle.mq_auto_shape.specs.LaneRuns.{numbers_of}
use Rattle.mq_auto_shape.proofs.lane_reads.first_in.Given as goal

abbrev pub invariant-runs : goal.invariant-runs
invariant-runs l = numbers_of l.numbers.lanes (drop l.run-index l.runs) ≡ numbers_of l.numbers.lanes l.runs
