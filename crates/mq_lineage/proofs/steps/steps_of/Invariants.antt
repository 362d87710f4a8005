use Rattle.std.proofs.Common.{◌≡◌, ◌++◌, drop, map}
use Rattle.mq_cells.specs.Stores.{slot_at}
use Rattle.mq_lineage.specs.Told.{step_told}
use Rattle.mq_lineage.proofs.steps.steps_of.Given as goal

abbrev pub invariant-steps : goal.invariant-steps
invariant-steps g l = record {
  steps :
      l.steps ++ map (step_told (slot_at (g.C.Cells.input l.fn.cells) (g.C.Cells.results l.fn.cells))) (drop l.each-index l.told)
      ≡ map (step_told (slot_at (g.C.Cells.input l.fn.cells) (g.C.Cells.results l.fn.cells))) l.told;
  same_input : g.C.Cells.input l.cells ≡ g.C.Cells.input l.fn.cells;
  same_results : g.C.Cells.results l.cells ≡ g.C.Cells.results l.fn.cells;
}
