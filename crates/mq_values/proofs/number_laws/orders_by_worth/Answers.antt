use Rattle.mq_values.proofs.RoundingLemmas.{orders}
use Rattle.mq_values.proofs.number_laws.orders_by_worth.Goals as goal

pub returns : goal.returns
returns c = orders
