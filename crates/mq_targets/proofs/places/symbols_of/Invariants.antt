use Rattle.std.proofs.Common.{◌≡◌, ◌++◌, drop, map}
use Rattle.mq_targets.specs.Choice.{symbol_at}
use Rattle.mq_targets.proofs.places.symbols_of.Given as goal

abbrev pub invariant-loop-place : goal.invariant-loop-place
invariant-loop-place l = l.tests.items ++ map symbol_at (drop l.place-index l.places) ≡ map symbol_at l.places
