use Rattle.std.proofs.Common.{ℕ}
use Rattle.mq_ir.specs.declared.statement.Column.{Column}
use Rattle.mq_binder.specs.FromWalk.{column_of_item}
use Rattle.mq_binder.proofs.NumberLemmas.{Listed}
use Rattle.mq_binder.proofs.sources.push_columns.Given as goal

abbrev pub invariant-cols : goal.invariant-cols
invariant-cols l = Listed (λ (p : ℕ × Column). column_of_item l.item p.0 p.1) l.cols l.initial.columns l.n l.columns
