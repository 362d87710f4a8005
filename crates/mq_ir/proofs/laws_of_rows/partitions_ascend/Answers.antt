use Rattle.mq_ir.proofs.RowLemmas.{partitions_ascend}
use Rattle.mq_ir.proofs.laws_of_rows.partitions_ascend.Goals as goal

pub returns : goal.returns
returns c = partitions_ascend
