use Rattle.mq_ir.proofs.LeftLemmas.{update_creates_none}
use Rattle.mq_ir.proofs.laws_of_left_sides.update_creates_none.Goals as goal

pub returns : goal.returns
returns c = update_creates_none
