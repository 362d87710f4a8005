use Rattle.std.proofs.Common.{◌≡◌, ◌++◌, drop, map}
use Rattle.mq_lineage.specs.Told.{told_bare}
use Rattle.mq_lineage.proofs.naming.push_given.Given as goal

abbrev pub invariant-given : goal.invariant-given
invariant-given l = l.told ++ map told_bare (drop l.name-index l.given) ≡ l.fn.told ++ map told_bare l.given
