use Rattle.std.proofs.Common.{◌≡◌, ◌++◌, map, take}
use Rattle.mq_shape.specs.Runs.{cut_row}
use Rattle.mq_delta_parts.specs.Edits.{coming}
use Rattle.mq_delta_parts.proofs.edits.push_come.Given as goal

abbrev pub invariant-rows : goal.invariant-rows
invariant-rows l = l.edits.items ≡ l.fn.edits.items ++ map coming (map (cut_row l.part) (take l.row-index l.come))
