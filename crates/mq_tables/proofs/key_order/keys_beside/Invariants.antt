use Rattle.mq_tables.proofs.ExchangeLemmas.{AddingBeside}
use Rattle.mq_tables.proofs.key_order.keys_beside.Given as goal

abbrev pub invariant-puts : goal.invariant-puts
invariant-puts l = AddingBeside l.schema l.order l.old l.puts l.put-index l.keys
