use Rattle.mq_tables.proofs.GroupLemmas.{put_like_next}
use Rattle.mq_tables.proofs.key_order.are_put_like.Goals as goal

pub puts-preserved : goal.puts-preserved
puts-preserved c =
    put_like_next c.args.schema.now c.args.puts.now c.args.values.now c.puts.put-index c.put-item.result c.puts-test.true c.put-item.is
    (c.has_groups_of.ensures c.if-not-has_groups_of.false) c.puts.invariant
