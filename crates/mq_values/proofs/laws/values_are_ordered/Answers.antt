use Rattle.mq_values.specs.OrderLaws.{value_total}
use Rattle.mq_values.specs.OrderTells.{value_itself, same_value}
use Rattle.mq_values.proofs.laws.values_are_ordered.Goals as goal

pub returns : goal.returns
returns c = record { order = value_total; itself = value_itself; apart = same_value }
