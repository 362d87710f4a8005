use Rattle.mq_ir.proofs.LeftLemmas.{counts_by_product}
use Rattle.mq_ir.proofs.laws_of_left_sides.combinations_are_counted.Goals as goal

pub returns : goal.returns
returns c = counts_by_product
