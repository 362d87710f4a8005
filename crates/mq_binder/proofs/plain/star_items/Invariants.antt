use Rattle.std.proofs.Common.{◌≡◌, map, take}
use Rattle.mq_binder.specs.PlainWalk.{star_item}
use Rattle.mq_binder.proofs.plain.star_items.Given as goal

abbrev pub invariant-columns : goal.invariant-columns
invariant-columns l = l.items ≡ map star_item (take l.c-index l.columns)
