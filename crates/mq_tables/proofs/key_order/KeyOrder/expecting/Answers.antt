use Rattle.mq_tables.proofs.GroupLemmas.{like_none}
use Rattle.mq_tables.proofs.key_order.KeyOrder.expecting.Goals as goal

pub invariant_of-result : goal.invariant_of-result
invariant_of-result c = like_none c.args.sample c.empty.result c.empty.ensures
