use Rattle.std.proofs.Common.{◌≡◌, ◌++◌, map, take}
use Rattle.mq_delta_parts.specs.Groups.{with_mark}
use Rattle.mq_delta_parts.proofs.groups.push_changes.Given as goal

abbrev pub invariant-rows : goal.invariant-rows
invariant-rows l = l.changes.items ≡ l.fn.changes.items ++ map (with_mark l.came) (take l.row-index l.rows)
