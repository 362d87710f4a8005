use Rattle.mq_ir.proofs.ReadLemmas.{step_reads_its_looks}
use Rattle.mq_ir.proofs.laws_of_reads.steps_read_their_looks.Goals as goal

pub returns : goal.returns
returns c = step_reads_its_looks
