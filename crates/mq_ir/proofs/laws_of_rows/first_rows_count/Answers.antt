use Rattle.mq_ir.proofs.CellLemmas.{first_row_counts}
use Rattle.mq_ir.proofs.laws_of_rows.first_rows_count.Goals as goal

pub returns : goal.returns
returns c = first_row_counts
