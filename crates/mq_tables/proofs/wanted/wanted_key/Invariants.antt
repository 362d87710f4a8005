use Rattle.std.proofs.Common.{take}
use Rattle.mq_tables.specs.Wanted.{AreWanted}
use Rattle.mq_tables.proofs.wanted.wanted_key.Given as goal

abbrev pub invariant-columns : goal.invariant-columns
invariant-columns l = AreWanted l.filter (take l.column-index l.schema.key) l.values
