use Rattle.mq_delta_cells.proofs.StartLemmas.{names_next}
use Rattle.mq_delta_cells.proofs.starting.names_of.Goals as goal

pub putting-preserved : goal.putting-preserved
putting-preserved c =
    names_next c.args.cells.now c.args.moved.now c.putting.name-index c.name-item.result c.putting.names c.put.new.self c.putting-test.true c.name-item.is
    c.in_ok-put.ensures c.putting.invariant
