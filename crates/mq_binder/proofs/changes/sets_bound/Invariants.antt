use Rattle.std.proofs.Common.{ℕ, []}
use Rattle.mq_ir.specs.declared.expression.Expr.{Expr}
use Rattle.mq_binder.specs.ChangeWalk.{set_bound}
use Rattle.mq_bind_expr.specs.StepLemmas.{Behind}
use Rattle.mq_binder.proofs.changes.sets_bound.Given as goal

abbrev pub invariant-sets : goal.invariant-sets
invariant-sets l = Behind (set_bound l.schema l.scope) (λ (s : ℕ × Expr). s.0) [] l.sets l.set-index l.made l.taken
