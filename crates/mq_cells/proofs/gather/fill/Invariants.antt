use Rattle.std.proofs.Common.{◌≡◌, take}
use Rattle.mq_ir.specs.Keys.{Tuple}
use Rattle.mq_ir.specs.Partitions.{cell_at}
use Rattle.mq_cells.specs.IndexedStores.{IsFree, input_over}
use Rattle.mq_cells.specs.Numberings.{Grows}
use Rattle.mq_cells.proofs.gather.fill.Given as goal

-- the cells so far
abbrev pub invariant-loop-key : goal.invariant-loop-key
invariant-loop-key l = record {
  input : (q : Tuple) → input_over l.cells l.given q ≡ cell_at (take l.key-index l.input) q;
  free : IsFree l.cells l.given;
  grows : Grows l.fn.cells l.cells;
}
