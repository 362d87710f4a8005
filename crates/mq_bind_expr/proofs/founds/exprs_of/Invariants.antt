use Rattle.std.proofs.Common.{◌≡◌}
use Rattle.mq_bind_expr.specs.OperatorNodes.{exprs_of}
use Rattle.mq_bind_expr.proofs.founds.exprs_of.Given as goal

abbrev pub invariant-loop-f : goal.invariant-loop-f
invariant-loop-f l = l.es ≡ exprs_of l.yielded
