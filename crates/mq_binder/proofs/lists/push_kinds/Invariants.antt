use Rattle.std.proofs.Common.{◌≡◌, ◌++◌, take}
use Rattle.mq_binder.specs.ListWalk.{list_kinds}
use Rattle.mq_binder.proofs.lists.push_kinds.Given as goal

abbrev pub invariant-items : goal.invariant-items
invariant-items l = l.kinds ≡ l.initial.kinds ++ list_kinds (take l.item-index l.items)
