use Rattle.mq_tables.proofs.GroupLemmas.{like_next}
use Rattle.mq_tables.proofs.groups.have_groups_of.Goals as goal

pub rows-preserved : goal.rows-preserved
rows-preserved c =
    like_next c.args.schema.now c.args.rows.now c.args.values.now c.rows.row-index c.row-item.result c.rows-test.true c.row-item.is
    (c.has_groups_of.ensures c.if-not-has_groups_of.false) c.rows.invariant
