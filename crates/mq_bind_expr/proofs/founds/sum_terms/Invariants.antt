use Rattle.std.proofs.Common.{◌≡◌}
use Rattle.mq_bind_expr.specs.OperatorNodes.{sum_terms}
use Rattle.mq_bind_expr.proofs.founds.sum_terms.Given as goal

abbrev pub invariant-loop-op : goal.invariant-loop-op
invariant-loop-op l = l.terms ≡ sum_terms l.yielded
