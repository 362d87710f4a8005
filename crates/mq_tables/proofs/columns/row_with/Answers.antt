use Rattle.mq_tables.proofs.SetLemmas.{setting_next}
use Rattle.mq_tables.proofs.columns.row_with.Goals as goal

pub sets-preserved : goal.sets-preserved
sets-preserved c =
    setting_next c.args.schema.now c.args.number c.args.row.now c.args.sets.now c.sets.set-index c.sets.values.items c.put.new.items.items c.set-item.result c.in_ok-v.v
    c.sets-test.true c.set-item.is c.in_ok-v.ensures c.put.ensures c.sets.invariant
