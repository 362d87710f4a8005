use Rattle.std.proofs.Common.{◌≡◌, take}
use Rattle.mq_kept.proofs.comparing.are_same_arrays.Given as goal

abbrev pub invariant-loop-at : goal.invariant-loop-at
invariant-loop-at l = take l.at l.a ≡ take l.at l.b
