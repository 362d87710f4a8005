use Rattle.std.proofs.Common.{◌≡◌}
use Rattle.mq_cells.specs.IndexedStores.{input_in, results_of}
use Rattle.mq_auto.proofs.values.add_created.Given as goal

abbrev pub invariant-adding : goal.invariant-adding
invariant-adding l = record {
  same_input : input_in l.cells ≡ input_in l.fn.cells;
  same_results : results_of l.cells ≡ results_of l.fn.cells;
}
