use Rattle.std.proofs.Common.{◌≡◌, take}
use Rattle.mq_unfold.proofs.copies.longer.Given as goal

abbrev pub invariant-loop-place : goal.invariant-loop-place
invariant-loop-place l = l.places ≡ take l.place-index l.front
