use Rattle.mq_binder.specs.FromWalk.{on_bound}
use Rattle.mq_bind_expr.specs.NumberedSteps.{Numbered}
use Rattle.mq_binder.proofs.bases.ons_bound.Given as goal

abbrev pub invariant-froms : goal.invariant-froms
invariant-froms l = Numbered (on_bound l.scope) 0 l.froms l.n l.n l.ons
