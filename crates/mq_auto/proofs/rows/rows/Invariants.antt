use Rattle.std.proofs.Common.{◌≡◌, ◌++◌, drop, map}
use Rattle.mq_ir.specs.Automatic.{slot_cell}
use Rattle.mq_ir.specs.Unfolding.{model_of}
use Rattle.mq_cells.specs.Stores.{slot_at}
use Rattle.mq_auto.proofs.rows.rows.Given as goal

abbrev pub invariant-listing : goal.invariant-listing
invariant-listing g l = record {
  rows :
      l.rows ++ map (slot_cell (model_of l.m) l.s (slot_at (g.C.Cells.input l.fn.cells) (g.C.Cells.results l.fn.cells))) (drop l.key-index l.s.cells)
      ≡ map (slot_cell (model_of l.m) l.s (slot_at (g.C.Cells.input l.fn.cells) (g.C.Cells.results l.fn.cells))) l.s.cells;
  same_input : g.C.Cells.input l.cells ≡ g.C.Cells.input l.fn.cells;
  same_results : g.C.Cells.results l.cells ≡ g.C.Cells.results l.fn.cells;
}
