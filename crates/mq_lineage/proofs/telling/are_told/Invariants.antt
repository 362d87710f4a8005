use Rattle.mq_cells.specs.IndexedStores.{results_of}
use Rattle.mq_lineage.proofs.LookLemmas.{Told}
use Rattle.mq_lineage.proofs.telling.are_told.Given as goal

abbrev pub invariant-looks : goal.invariant-looks
invariant-looks l = Told (results_of l.cells) l.looks l.look-index
