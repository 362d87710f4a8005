use Rattle.std.proofs.Common.{◌≡◌, ◌++◌, drop, length, map, slice_get}
use Rattle.std.specs.List.{filter_map}
use Rattle.mq_auto_shape.specs.Outcomes.{by_rule}
use Rattle.mq_auto_shape.proofs.cycles.cells_at.Given as goal

abbrev pub invariant-places : goal.invariant-places
invariant-places l = record {
  cells : l.cells.items ++ map by_rule (filter_map (slice_get l.assigned) (drop l.place-index l.places)) ≡ map by_rule (filter_map (slice_get l.assigned) l.places);
  count : length l.cells.items ≡ l.place-index;
}
