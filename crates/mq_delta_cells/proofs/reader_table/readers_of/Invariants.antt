use Rattle.std.proofs.Common.{◌≡◌}
use Rattle.mq_delta_cells.proofs.ReaderLemmas.{HasFirst}
use Rattle.mq_delta_cells.proofs.reader_table.readers_of.Given as goal

abbrev pub invariant-noting : goal.invariant-noting
invariant-noting l = record {
  at : l.place ≡ l.list-index;
  first : HasFirst l.cells l.looks l.list-index l.readers;
}
