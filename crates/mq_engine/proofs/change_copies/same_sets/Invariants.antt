use Rattle.std.proofs.Common.{◌≡◌, take}
use Rattle.mq_engine.proofs.change_copies.same_sets.Given as goal

abbrev pub invariant-loop-column : goal.invariant-loop-column
invariant-loop-column l = l.copies ≡ take l.column-index l.sets
