use Rattle.mq_ir.specs.AffectedLaws.{least_closed}
use Rattle.mq_ir.proofs.laws_of_order.affected_is_least_closed.Goals as goal

pub returns : goal.returns
returns c = least_closed
