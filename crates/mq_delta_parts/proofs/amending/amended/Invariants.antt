use Rattle.mq_delta_parts.specs.Edits.{Ascends}
use Rattle.mq_delta_parts.proofs.WalkLemmas.{Walked}
use Rattle.mq_delta_parts.proofs.amending.amended.Given as goal

-- the edits so far, where the cells ascend
abbrev pub invariant-edits : goal.invariant-edits
invariant-edits l = Ascends l.cells → Walked l.cells l.edits l.at l.kept l.rest
