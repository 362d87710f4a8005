use Rattle.std.proofs.Common.{◌≡◌}
use Rattle.mq_bind_expr.specs.FunctionNodes.{converted_all}
use Rattle.mq_bind_expr.proofs.function_nodes.converted_all.Given as goal

abbrev pub invariant-loop-f : goal.invariant-loop-f
invariant-loop-f l = l.es ≡ converted_all l.kind l.yielded
