use Rattle.std.proofs.Common.{◌≡◌, map, take}
use Rattle.mq_ir.specs.Iteration.{out_cell}
use Rattle.mq_seq.proofs.marked_cells.MarkedCells.rows.Given as goal

abbrev pub invariant-rows : goal.invariant-rows
invariant-rows l = l.rows ≡ map (out_cell l.self.updated) (take l.at l.self.cells)
