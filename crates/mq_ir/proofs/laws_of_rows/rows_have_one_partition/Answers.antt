use Rattle.mq_ir.proofs.RowLemmas.{rows_have_one_partition}
use Rattle.mq_ir.proofs.laws_of_rows.rows_have_one_partition.Goals as goal

pub returns : goal.returns
returns c = rows_have_one_partition
