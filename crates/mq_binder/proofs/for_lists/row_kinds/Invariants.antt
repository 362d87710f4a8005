use Rattle.std.proofs.Common.{◌≡◌, take}
use Rattle.mq_bind_expr.specs.OperatorNodes.{kinds_of}
use Rattle.mq_binder.proofs.for_lists.row_kinds.Given as goal

abbrev pub invariant-row : goal.invariant-row
invariant-row l = l.kinds ≡ kinds_of (take l.f-index l.row)
