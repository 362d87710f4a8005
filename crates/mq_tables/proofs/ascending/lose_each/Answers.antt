use Rattle.mq_tables.proofs.LoseLemmas.{losing_next}
use Rattle.mq_tables.proofs.ascending.lose_each.Goals as goal

pub gone-preserved : goal.gone-preserved
gone-preserved c = losing_next c.args.keys.now c.args.gone.now c.gone.keys c.lose_one.new.self c.gone.key-index c.key-item.result c.gone-test.true c.key-item.is c.lose_one.ensures c.gone.invariant
