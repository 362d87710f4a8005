use Rattle.std.proofs.Common.{◌≡◌, map}
use Rattle.mq_bind_expr.specs.OperatorNodes.{exprs_of}
use Rattle.mq_binder.proofs.for_lists.rows_exprs.Given as goal

abbrev pub invariant-rows : goal.invariant-rows
invariant-rows l = l.es ≡ map exprs_of l.yielded
