use Rattle.std.proofs.Common.{◌≡◌, drop, map}
use Rattle.mq_bind_expr.specs.FunctionNodes.{test_kind}
use Rattle.mq_bind_scopes.specs.Kinds.{common_from}
use Rattle.mq_bind_expr.proofs.case_parts.common_test.Given as goal

abbrev pub invariant-loop-arm : goal.invariant-loop-arm
invariant-loop-arm l = common_from l.common (map test_kind (drop l.arm-index l.arms)) ≡ common_from l.fn.kind (map test_kind l.arms)
