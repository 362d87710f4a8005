use Rattle.std.proofs.Common.{◌≡◌, take}
use Rattle.mq_binder.proofs.lists.same_names.Given as goal

abbrev pub invariant-names : goal.invariant-names
invariant-names l = l.copies ≡ take l.name-index l.names
