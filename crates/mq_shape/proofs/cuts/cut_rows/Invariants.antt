use Rattle.std.proofs.Common.{◌≡◌, map, take}
use Rattle.mq_shape.specs.Runs.{cut_row}
use Rattle.mq_shape.proofs.cuts.cut_rows.Given as goal

abbrev pub invariant-loop-row : goal.invariant-loop-row
invariant-loop-row l = l.cells ≡ map (cut_row l.q) (take l.row-index l.rows)
