use Rattle.std.proofs.Common.{◌≡◌, ◌++◌, drop, map}
use Rattle.mq_targets.specs.Choice.{with_places}
use Rattle.mq_targets.proofs.choosing.projections.Given as goal

abbrev pub invariant-loop-key : goal.invariant-loop-key
invariant-loop-key l = l.others.items ++ map (with_places l.places) (drop l.key-index l.keys) ≡ map (with_places l.places) l.keys
