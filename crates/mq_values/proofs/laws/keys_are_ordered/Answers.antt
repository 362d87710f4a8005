use Rattle.mq_values.specs.OrderLaws.{key_total}
use Rattle.mq_values.specs.OrderTells.{key_itself, same_key}
use Rattle.mq_values.proofs.laws.keys_are_ordered.Goals as goal

pub returns : goal.returns
returns c = record { order = key_total; itself = key_itself; apart = same_key }
