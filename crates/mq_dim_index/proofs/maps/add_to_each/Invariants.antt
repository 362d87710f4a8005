use Rattle.std.proofs.Common.{◌≡◌, List, false, length}
use Rattle.std.specs.List.{All, AllWithin}
use Rattle.mq_dim_index.specs.Maps.{MapsKeys}
use Rattle.mq_dim_index.specs.Places.{Tuple, is_there, with_key}
use Rattle.mq_dim_index.proofs.maps.add_to_each.Given as goal

-- the maps so far have the key, and those that are left do not yet
abbrev pub invariant-loop-map : goal.invariant-loop-map
invariant-loop-map l = (keys : List Tuple) → All (MapsKeys keys) l.initial.maps → is_there keys l.key ≡ false →
    AllWithin (MapsKeys (with_key keys l.key)) l.maps 0 l.map-index × AllWithin (MapsKeys keys) l.maps l.map-index (length l.maps)
