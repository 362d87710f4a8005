use Rattle.std.proofs.Common.{◌≡◌}
use Rattle.mq_bind_expr.specs.FunctionNodes.{bound_arms}
use Rattle.mq_bind_expr.proofs.case_parts.bound_arms.Given as goal

abbrev pub invariant-loop-arm : goal.invariant-loop-arm
invariant-loop-arm l = l.bound ≡ bound_arms l.kind l.yielded
