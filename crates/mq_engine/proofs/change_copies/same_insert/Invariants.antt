use Rattle.std.proofs.Common.{◌≡◌, take}
use Rattle.mq_engine.proofs.change_copies.same_insert.Given as goal

abbrev pub invariant-loop-row : goal.invariant-loop-row
invariant-loop-row l = l.copies ≡ take l.row-index l.rows
