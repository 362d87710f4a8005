use Rattle.std.proofs.Common.{◌≡◌, map, take}
use Rattle.mq_binder.specs.LeftWalk.{kind_called}
use Rattle.mq_binder.proofs.left_sides.kinds_called.Given as goal

abbrev pub invariant-names : goal.invariant-names
invariant-names l = l.kinds ≡ map (kind_called l.scope) (take l.name-index l.names)
