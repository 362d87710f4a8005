use Rattle.std.proofs.Common.{[]}
use Rattle.mq_ir.specs.Changes.{column_value}
use Rattle.mq_tables.proofs.Walks.{Paired}
use Rattle.mq_tables.proofs.columns.inserted_row.Given as goal

abbrev pub invariant-columns : goal.invariant-columns
invariant-columns l = Paired (λ (col, e). column_value [] l.number col e) l.schema.cols l.es l.at l.values
