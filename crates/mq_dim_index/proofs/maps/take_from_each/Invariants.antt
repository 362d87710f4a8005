use Rattle.std.proofs.Common.{List, length}
use Rattle.std.specs.List.{All, AllWithin}
use Rattle.mq_dim_index.specs.Maps.{MapsKeys}
use Rattle.mq_dim_index.specs.Places.{Tuple, without_key}
use Rattle.mq_dim_index.proofs.maps.take_from_each.Given as goal

-- the maps so far lack the key, and those that are left do not yet
abbrev pub invariant-loop-map : goal.invariant-loop-map
invariant-loop-map l = (keys : List Tuple) → All (MapsKeys keys) l.initial.maps →
    AllWithin (MapsKeys (without_key keys l.key)) l.maps 0 l.map-index × AllWithin (MapsKeys keys) l.maps l.map-index (length l.maps)
