use Rattle.std.proofs.Common.{◌≡◌, ◌++◌, drop, map}
use Rattle.std.specs.List.{list_any}
use Rattle.mq_ir.specs.Targets.{place_is_symbolic, value_of}
use Rattle.mq_unfold.proofs.fixed.key_named.Given as goal

abbrev pub invariant-places : goal.invariant-places
invariant-places l = record {
  positional : list_any place_is_symbolic l.places ≡ list_any place_is_symbolic (drop l.place-index l.places);
  so_far : l.values ++ map value_of (drop l.place-index l.places) ≡ map value_of l.places;
}
