use Rattle.mq_ir.specs.AffectedLaws.{stays_levelled}
use Rattle.mq_ir.proofs.laws_of_order.levelled_stays.Goals as goal

pub returns : goal.returns
returns c = stays_levelled
