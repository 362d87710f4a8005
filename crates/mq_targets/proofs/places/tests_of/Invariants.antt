use Rattle.std.proofs.Common.{◌≡◌, ◌++◌, drop, map}
use Rattle.mq_targets.specs.Choice.{test_at}
use Rattle.mq_targets.proofs.places.tests_of.Given as goal

abbrev pub invariant-loop-place : goal.invariant-loop-place
invariant-loop-place l = l.tests.items ++ map test_at (drop l.place-index l.places) ≡ map test_at l.places
