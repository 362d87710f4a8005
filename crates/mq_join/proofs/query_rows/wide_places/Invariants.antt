use Rattle.std.proofs.Common.{◌≡◌, take}
use Rattle.mq_join.proofs.query_rows.wide_places.Given as goal

abbrev pub invariant-places : goal.invariant-places
invariant-places l = l.wide.items ≡ take l.place-index l.places
