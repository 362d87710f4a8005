use Rattle.std.proofs.Common.{◌≡◌, take}
use Rattle.mq_sources.proofs.whole_tables.copies.Given as goal

abbrev pub invariant-rows : goal.invariant-rows
invariant-rows l = l.copied ≡ take l.row-index l.rows
