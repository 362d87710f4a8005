use Rattle.std.proofs.Common.{List, IfSome}
use Rattle.std.specs.List.{All}
use Rattle.mq_dim_index.specs.Maps.{MapsKeys}
use Rattle.mq_dim_index.specs.Places.{Tuple}
use Rattle.mq_dim_index.proofs.maps.shortest_map.Given as goal

abbrev pub invariant-loop-map : goal.invariant-loop-map
invariant-loop-map l = (keys : List Tuple) → All (MapsKeys keys) l.maps → IfSome l.found (λ found. MapsKeys keys found.now)
