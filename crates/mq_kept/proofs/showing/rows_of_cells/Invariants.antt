use Rattle.std.proofs.Common.{◌≡◌, map, take}
use Rattle.mq_ir.specs.Answer.{columns_of, returned}
use Rattle.mq_kept.proofs.showing.rows_of_cells.Given as goal

abbrev pub invariant-loop-cell : goal.invariant-loop-cell
invariant-loop-cell l = l.rows ≡ map (columns_of l.key) (returned l.part (take l.cell-index l.cells))
