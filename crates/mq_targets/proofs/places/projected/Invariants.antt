use Rattle.std.proofs.Common.{◌≡◌, ◌++◌, drop, map}
use Rattle.std.specs.List.{zip}
use Rattle.mq_ir.specs.Targets.{value_at}
use Rattle.mq_targets.specs.Choice.{with_places}
use Rattle.mq_targets.proofs.places.projected.Given as goal

abbrev pub invariant-loop-at : goal.invariant-loop-at
invariant-loop-at l = l.values ++ map value_at (zip (drop l.at l.places) (drop l.at l.key)) ≡ with_places l.places l.key
