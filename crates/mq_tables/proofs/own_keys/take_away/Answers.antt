use Rattle.mq_tables.proofs.LoseLemmas.{losing_next}
use Rattle.mq_tables.proofs.own_keys.take_away.Goals as goal

pub keys-preserved : goal.keys-preserved
keys-preserved c =
    losing_next c.args.keys.now.keys c.args.others.now c.keys.keys.keys c.remove.new.self.keys c.keys.key-index c.key-item.result c.keys-test.true c.key-item.is c.remove.ensures.updates.0
    c.keys.invariant
