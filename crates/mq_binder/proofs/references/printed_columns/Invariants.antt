use Rattle.std.proofs.Common.{ℕ}
use Rattle.mq_bind_scopes.specs.declared.scopes.Printed.{Printed}
use Rattle.mq_binder.specs.ReferenceWalk.{printed_column}
use Rattle.mq_binder.proofs.FlatLemmas.{Flat}
use Rattle.mq_binder.proofs.references.printed_columns.Given as goal

abbrev pub invariant-printed : goal.invariant-printed
invariant-printed l = Flat (λ (p : ℕ × Printed). printed_column p.0 p.1) l.printed l.n l.columns
