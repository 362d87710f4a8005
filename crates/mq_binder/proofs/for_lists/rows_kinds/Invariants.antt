use Rattle.std.proofs.Common.{◌≡◌, map, take}
use Rattle.mq_bind_expr.specs.OperatorNodes.{kinds_of}
use Rattle.mq_binder.proofs.for_lists.rows_kinds.Given as goal

abbrev pub invariant-rows : goal.invariant-rows
invariant-rows l = l.kinds ≡ map kinds_of (take l.row-index l.rows)
