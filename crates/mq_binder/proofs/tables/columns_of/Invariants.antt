use Rattle.std.proofs.Common.{[]}
use Rattle.mq_ir.specs.declared.statement.Column.{Column}
use Rattle.mq_binder.specs.TableWalk.{column_of}
use Rattle.mq_bind_expr.specs.StepLemmas.{Behind}
use Rattle.mq_binder.proofs.tables.columns_of.Given as goal

abbrev pub invariant-cols : goal.invariant-cols
invariant-cols l = Behind column_of (λ (c : Column). c.name) [] l.cols l.c-index l.columns l.taken
