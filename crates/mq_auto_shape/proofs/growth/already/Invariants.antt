use Rattle.std.proofs.Common.{◌≡◌, ◌++◌, drop}
use Rattle.std.specs.List.{filter, list_any}
use Rattle.mq_ir.specs.Shape.{assigns}
use Rattle.mq_auto_shape.proofs.growth.already.Given as goal

abbrev pub invariant-loop-key : goal.invariant-loop-key
invariant-loop-key l = l.again.items ++ filter (λ key. list_any (assigns l.m key) l.assigned) (drop l.key-index l.found) ≡ filter (λ key. list_any (assigns l.m key) l.assigned) l.found
