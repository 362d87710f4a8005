use Rattle.mq_ir.proofs.LeftLemmas.{creates_what_is_missing}
use Rattle.mq_ir.proofs.laws_of_left_sides.missing_targets_are_created.Goals as goal

pub returns : goal.returns
returns c = creates_what_is_missing
