use Rattle.mq_ir.specs.Changes.{updated_row}
use Rattle.mq_tables.proofs.PutLemmas.{Replacing}
use Rattle.mq_tables.proofs.visits.replaced_rows.Given as goal

abbrev pub invariant-rows : goal.invariant-rows
invariant-rows l = Replacing (updated_row l.schema l.sets l.filter) l.rows l.at l.puts l.were
