use Rattle.std.proofs.Common.{◌≡◌, ◌≤◌, length}
use Rattle.mq_ir.specs.Partitions.{Cells, cell_at}
use Rattle.mq_ir.specs.Unfolding.{model_of}
use Rattle.mq_cells.specs.Columns.{no_results}
use Rattle.mq_auto.specs.Walks.{AreRightWithin}
use Rattle.mq_auto.proofs.walking.walk_rounds.Given as goal

abbrev pub invariant-rounds : goal.invariant-rounds
invariant-rounds g l = record {
  right : (input : Cells) → g.C.Cells.input l.fn.cells ≡ cell_at input → g.C.Cells.results l.fn.cells ≡ no_results
      → AreRightWithin (model_of l.fn.m) l.found.shape input l.round-index (g.C.Cells.results l.cells);
  same : g.C.Cells.input l.cells ≡ g.C.Cells.input l.fn.cells;
  within : l.round-index ≤ length l.rounds;
}
