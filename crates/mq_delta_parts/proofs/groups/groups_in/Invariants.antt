use Rattle.std.proofs.Common.{length}
use Rattle.mq_delta_parts.proofs.GroupLemmas.{Stage}
use Rattle.mq_delta_parts.proofs.groups.groups_in.Given as goal

-- the groups so far, and the changes that are left
abbrev pub invariant-runs : goal.invariant-runs
invariant-runs l = Stage l.parts l.fn.changes l.rest l.groups

abbrev pub decreases-runs : goal.decreases-runs
decreases-runs l = length l.rest
