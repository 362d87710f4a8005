use Rattle.mq_binder.specs.CellWalk.{value_bound}
use Rattle.mq_bind_expr.specs.NumberedSteps.{Numbered}
use Rattle.mq_binder.proofs.cells.values_bound.Given as goal

abbrev pub invariant-es : goal.invariant-es
invariant-es l = Numbered (value_bound l.kinds) 0 l.es l.n l.n l.values
