use Rattle.std.proofs.Common.{◌≡◌, take}
use Rattle.mq_binder.specs.ListWalk.{list_columns}
use Rattle.mq_binder.proofs.lists.list_columns.Given as goal

abbrev pub invariant-items : goal.invariant-items
invariant-items l = l.columns ≡ list_columns (take l.item-index l.items)
