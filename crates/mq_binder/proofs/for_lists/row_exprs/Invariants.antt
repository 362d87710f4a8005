use Rattle.std.proofs.Common.{◌≡◌}
use Rattle.mq_bind_expr.specs.OperatorNodes.{exprs_of}
use Rattle.mq_binder.proofs.for_lists.row_exprs.Given as goal

abbrev pub invariant-row : goal.invariant-row
invariant-row l = l.es ≡ exprs_of l.yielded
