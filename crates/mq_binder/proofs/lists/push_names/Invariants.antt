use Rattle.std.proofs.Common.{◌≡◌, ◌++◌, take}
use Rattle.mq_binder.specs.ListWalk.{list_names}
use Rattle.mq_binder.proofs.lists.push_names.Given as goal

abbrev pub invariant-items : goal.invariant-items
invariant-items l = l.names ≡ l.initial.names ++ list_names (take l.item-index l.items)
