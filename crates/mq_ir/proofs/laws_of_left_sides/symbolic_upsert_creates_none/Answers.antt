use Rattle.mq_ir.proofs.LeftLemmas.{symbol_creates_none}
use Rattle.mq_ir.proofs.laws_of_left_sides.symbolic_upsert_creates_none.Goals as goal

pub returns : goal.returns
returns c = symbol_creates_none
