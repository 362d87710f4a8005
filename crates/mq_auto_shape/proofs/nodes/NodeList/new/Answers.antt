use Rattle.mq_auto_shape.proofs.NodeLemmas.{none_strict}
use Rattle.mq_auto_shape.proofs.nodes.NodeList.new.Goals as goal

pub invariant_of-result : goal.invariant_of-result
invariant_of-result c = none_strict c.new.result.items c.new.ensures.items
