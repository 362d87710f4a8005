use Rattle.std.proofs.Common.{◌≡◌, take}
use Rattle.mq_kept.proofs.shapes.copy_of_round.Given as goal

abbrev pub invariant-loop-place : goal.invariant-loop-place
invariant-loop-place l = l.copy ≡ take l.place-index l.round
