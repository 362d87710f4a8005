use Rattle.std.proofs.Common.{◌≡◌, ◌++◌, drop, map}
use Rattle.mq_ir.specs.Unfolding.{model_of}
use Rattle.mq_auto_shape.specs.Edges.{reads_of}
use Rattle.mq_auto_shape.specs.LaneRuns.{reads_in_lanes}
use Rattle.mq_auto_shape.proofs.reads.all_runs.Given as goal

abbrev pub invariant-assigned : goal.invariant-assigned
invariant-assigned l = reads_in_lanes l.numbers.lanes l.lists.items ++ map (reads_of (model_of l.m) l.shape) (drop l.a-index l.assigned) ≡ map (reads_of (model_of l.m) l.shape) l.assigned
