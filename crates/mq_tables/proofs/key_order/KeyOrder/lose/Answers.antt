use Rattle.mq_tables.proofs.GroupLemmas.{lost_like}
use Rattle.mq_tables.proofs.key_order.KeyOrder.lose.Goals as goal

pub invariant_of-self : goal.invariant_of-self
invariant_of-self c =
    lost_like c.self.inside.sample c.self.inside.keys c.args.keys.now c.lose.new.self c.lose.result c.lose.ensures.lost c.lose.ensures.kept c.self.invariant
