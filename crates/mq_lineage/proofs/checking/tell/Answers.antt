use Rattle.mq_cells.specs.IndexedStores.{results_of}
use Rattle.mq_lineage.proofs.NodeLemmas.{stands_next}
use Rattle.mq_lineage.proofs.checking.tell.Goals as goal

pub returns : goal.returns
returns c =
    stands_next c.args.step.now.name c.args.step.now.slot c.in_ok-copy_slot.field-0 (results_of c.args.cells.now) (results_of c.put.new.self) c.in_ok-copy_slot.ensures c.in_ok-put.ensures.ok
