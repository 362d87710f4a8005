use Rattle.std.specs.List.{zip}
use Rattle.mq_scalar.specs.WalkLaws.{Walked}
use Rattle.mq_tool.specs.Places.{value_at_place}
use Rattle.mq_tool.proofs.explaining.place_values.Given as goal

abbrev pub invariant-places : goal.invariant-places
invariant-places l = Walked (λ (k, e). value_at_place k e) (zip l.kinds l.es) l.at l.values
