use Rattle.mq_tables.proofs.KeyOrderLemmas.{adding_next}
use Rattle.mq_tables.proofs.key_order.new_keys.Goals as goal

pub rows-preserved : goal.rows-preserved
rows-preserved c =
    adding_next c.args.schema.now c.args.order.now c.args.rows.now c.rows.keys c.put_new.new.keys c.rows.row-index c.row-item.result c.in_ok-key.key c.in_ok-put_new.field-0
    c.rows-test.true c.row-item.is c.in_ok-key.ensures c.in_ok-put_new.ensures.new c.if-not-branch.false (c.in_ok-put_new.ensures.put c.if-not-branch.false) c.rows.invariant
