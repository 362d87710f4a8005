use Rattle.mq_values.specs.OrderTells.{ordered_as_compared, equal_as_compared}
use Rattle.mq_values.proofs.laws.order_agrees_with_comparison.Goals as goal

pub returns : goal.returns
returns c = record { different = ordered_as_compared; equal = equal_as_compared }
