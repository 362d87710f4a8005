use Rattle.std.proofs.Common.{◌≡◌, take}
use Rattle.mq_delta_parts.specs.Groups.{rows_marked}
use Rattle.mq_delta_parts.proofs.groups.marked_rows.Given as goal

abbrev pub invariant-changes : goal.invariant-changes
invariant-changes l = l.rows ≡ rows_marked l.came (take l.change-index l.changes)
