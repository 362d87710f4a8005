use Rattle.std.proofs.Common.{◌≡◌, take}
use Rattle.mq_join.specs.Rows.{places_in}
use Rattle.mq_join.proofs.join_row.places_of.Given as goal

abbrev pub invariant-parts : goal.invariant-parts
invariant-parts l = l.places.items ≡ places_in (take l.part-index l.parts)
