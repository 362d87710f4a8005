use Rattle.mq_ir.proofs.GroupLemmas.{rows_have_one_group}
use Rattle.mq_ir.proofs.laws_of_rows.rows_have_one_group.Goals as goal

pub returns : goal.returns
returns c = rows_have_one_group
