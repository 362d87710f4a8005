use Rattle.std.proofs.Common.{◌≡◌, ◌++◌, drop, map}
use Rattle.mq_targets.specs.Choice.{key_at}
use Rattle.mq_targets.proofs.choosing.copies_at.Given as goal

abbrev pub invariant-loop-place : goal.invariant-loop-place
invariant-loop-place l = l.copies.items ++ map (key_at l.fn.keys) (drop l.place-index l.places) ≡ map (key_at l.fn.keys) l.places
