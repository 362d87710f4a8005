use Rattle.std.proofs.Common.{◌-◌, length}
use Rattle.mq_parse_stmt.proofs.DepthLemmas.{LevelsSoFar}
use Rattle.mq_parse_stmt.proofs.depth.is_too_deep.Given as goal

abbrev pub invariant-levels : goal.invariant-levels
invariant-levels l = LevelsSoFar l.t l.at l.opened l.closed

abbrev pub decreases-levels : goal.decreases-levels
decreases-levels l = length l.t - l.at
