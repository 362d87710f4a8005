use Rattle.mq_ir.proofs.ReadLemmas.{reads_its_looks}
use Rattle.mq_ir.proofs.laws_of_reads.reads_are_among_looks.Goals as goal

pub returns : goal.returns
returns c = reads_its_looks
