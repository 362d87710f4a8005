use Rattle.std.proofs.Common.{◌≡◌, ◌++◌, drop, map}
use Rattle.mq_ir.specs.Targets.{value_of}
use Rattle.mq_targets.proofs.places.named.Given as goal

abbrev pub invariant-loop-place : goal.invariant-loop-place
invariant-loop-place l = l.values ++ map value_of (drop l.place-index l.places) ≡ map value_of l.places
