use Rattle.mq_tables.proofs.KeyOrderLemmas.{Adding}
use Rattle.mq_tables.proofs.key_order.new_keys.Given as goal

abbrev pub invariant-rows : goal.invariant-rows
invariant-rows l = Adding l.schema l.order l.rows l.row-index l.keys
