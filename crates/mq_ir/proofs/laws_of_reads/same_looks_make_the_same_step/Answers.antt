use Rattle.mq_ir.proofs.ReadLemmas.{same_step}
use Rattle.mq_ir.proofs.laws_of_reads.same_looks_make_the_same_step.Goals as goal

pub returns : goal.returns
returns c = same_step
