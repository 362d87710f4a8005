use Rattle.std.proofs.Common.{◌≡◌, take}
use Rattle.mq_engine.proofs.catalogs.same_numbers.Given as goal

abbrev pub invariant-loop-number : goal.invariant-loop-number
invariant-loop-number l = l.copies ≡ take l.number-index l.numbers
