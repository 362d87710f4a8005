use Rattle.std.proofs.Common.{IfSome, sym, subst, arith}
use Rattle.mq_dim_index.specs.Maps.{MapsKeys}
use Rattle.mq_dim_index.proofs.maps.shortest_map.Goals as goal
use Rattle.mq_dim_index.proofs.maps.shortest_map.Goals.{then-count-fewest, else-count-fewest}

pub loop-map-preserved : goal.loop-map-preserved
loop-map-preserved c keys all =
    let old = subst (MapsKeys keys) (sym c.map-item.is) (all c.loop-map.map-index c.map-item.result (omega arith)) in
    elim c.if-count-fewest.branch [
      | then-count-fewest w ↦ subst (λ o. IfSome o (λ found. MapsKeys keys found.now)) (sym w.found-is) old
      | else-count-fewest w ↦ subst (λ o. IfSome o (λ found. MapsKeys keys found.now)) (sym w.found-is) (c.loop-map.invariant keys all)
    ]
