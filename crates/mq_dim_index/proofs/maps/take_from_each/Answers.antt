use Rattle.std.proofs.Common.{get_or, sym, subst, arith}
use Rattle.mq_dim_index.specs.Maps.{MapsKeys}
use Rattle.mq_dim_index.specs.Places.{without_key}
use Rattle.mq_dim_index.proofs.EachLemmas.{changed_so_far, left_as_before}
use Rattle.mq_dim_index.proofs.SumLemmas.{maps_without}
use Rattle.mq_dim_index.proofs.maps.take_from_each.Goals as goal

pub loop-map-preserved : goal.loop-map-preserved
loop-map-preserved c keys all =
    let key = c.args.key.now in
    let maps = c.loop-map.maps in
    let i = c.loop-map.map-index in
    let before = c.loop-map.invariant keys all in
    let item = get_or maps i c.map-item.result in
    let old = before.1 i c.map-item.result (omega arith) (omega arith) in
    let new = subst (MapsKeys (without_key keys key)) (sym c.remove.ensures) (maps_without keys key item old) in
    let done = changed_so_far (MapsKeys keys) (MapsKeys (without_key keys key)) maps i c.remove.new.self (omega arith) before.0 new in
    let rest = left_as_before (MapsKeys keys) (MapsKeys (without_key keys key)) maps i c.remove.new.self (omega arith) before.1 in
    (done, rest)
