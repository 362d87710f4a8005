use Rattle.std.proofs.Common.{◌≡◌, drop}
use Rattle.mq_bind_scopes.specs.Kinds.{common_from}
use Rattle.mq_bind_expr.specs.OperatorNodes.{kinds_of}
use Rattle.mq_bind_expr.proofs.founds.common_from.Given as goal

abbrev pub invariant-loop-f : goal.invariant-loop-f
invariant-loop-f l = common_from l.common (kinds_of (drop l.f-index l.found)) ≡ common_from l.fn.kind (kinds_of l.found)
