use Rattle.mq_delta_cells.proofs.StartLemmas.{keys_next, none_ascend}
use Rattle.mq_delta_cells.proofs.starting.index_of_any.Goals as goal

pub new-requires : goal.new-requires
new-requires c = none_ascend

pub inserting-preserved : goal.inserting-preserved
inserting-preserved c =
    keys_next c.args.keys.now c.inserting.key-index c.key-item.result c.in_ok-copy.field-0 c.inserting.index c.insert.new.self c.inserting-test.true c.key-item.is
    c.in_ok-copy.ensures c.in_ok-insert.ensures.ok c.inserting.invariant
