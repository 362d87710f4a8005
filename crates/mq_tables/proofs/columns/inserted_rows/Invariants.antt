use Rattle.mq_ir.specs.Changes.{inserted_row}
use Rattle.mq_tables.proofs.Walks.{Numbered}
use Rattle.mq_tables.proofs.columns.inserted_rows.Given as goal

abbrev pub invariant-rows : goal.invariant-rows
invariant-rows l = Numbered (inserted_row l.schema) l.rows l.at l.new
