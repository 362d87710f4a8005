use Rattle.mq_tables.proofs.AscendingLemmas.{gathered_next}
use Rattle.mq_tables.proofs.ascending.set_of.Goals as goal

pub keys-preserved : goal.keys-preserved
keys-preserved c =
    gathered_next c.args.keys.now c.keys.set.keys c.insert.new.self.keys c.keys.key-index c.key-item.result c.in_ok-copy.field-0 c.keys-test.true c.key-item.is c.in_ok-copy.ensures
    c.in_ok-insert.ensures.keys c.keys.invariant
