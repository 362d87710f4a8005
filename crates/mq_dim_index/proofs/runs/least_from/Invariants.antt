use Rattle.std.proofs.Common.{slice_get}
use Rattle.std.specs.Option.{option_copied}
use Rattle.mq_dim_index.specs.Runs.{IsLeastSoFar}
use Rattle.mq_dim_index.proofs.runs.least_from.Given as goal

abbrev pub invariant-loop-w : goal.invariant-loop-w
invariant-loop-w l = IsLeastSoFar l.ws (slice_get l.key l.dimension) l.w-index (option_copied l.found)
