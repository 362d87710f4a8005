use Rattle.std.proofs.Common.{◌≡◌, take}
use Rattle.mq_tables.proofs.ascending.copies.Given as goal

abbrev pub invariant-keys : goal.invariant-keys
invariant-keys l = l.copies.items ≡ take l.key-index l.keys
