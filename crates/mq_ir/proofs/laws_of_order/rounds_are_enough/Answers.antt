use Rattle.mq_ir.specs.AffectedLaws.{enough_rounds}
use Rattle.mq_ir.proofs.laws_of_order.rounds_are_enough.Goals as goal

pub returns : goal.returns
returns c = enough_rounds
