use Rattle.std.proofs.Common.{◌≡◌}
use Rattle.mq_bind_expr.specs.OperatorNodes.{prod_terms}
use Rattle.mq_bind_expr.proofs.founds.product_terms.Given as goal

abbrev pub invariant-loop-op : goal.invariant-loop-op
invariant-loop-op l = l.terms ≡ prod_terms l.yielded
