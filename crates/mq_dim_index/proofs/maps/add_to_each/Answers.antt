use Rattle.std.proofs.Common.{get_or, sym, subst, arith}
use Rattle.mq_dim_index.specs.Maps.{MapsKeys}
use Rattle.mq_dim_index.specs.Places.{with_key}
use Rattle.mq_dim_index.proofs.EachLemmas.{changed_so_far, left_as_before}
use Rattle.mq_dim_index.proofs.SumLemmas.{maps_with}
use Rattle.mq_dim_index.proofs.maps.add_to_each.Goals as goal

pub loop-map-preserved : goal.loop-map-preserved
loop-map-preserved c keys all lacks =
    let key = c.args.key.now in
    let maps = c.loop-map.maps in
    let i = c.loop-map.map-index in
    let before = c.loop-map.invariant keys all lacks in
    let item = get_or maps i c.map-item.result in
    let old = before.1 i c.map-item.result (omega arith) (omega arith) in
    let new = subst (MapsKeys (with_key keys key)) (sym c.in_ok-insert.ensures.ok) (maps_with keys key item lacks old) in
    let done = changed_so_far (MapsKeys keys) (MapsKeys (with_key keys key)) maps i c.insert.new.self (omega arith) before.0 new in
    let rest = left_as_before (MapsKeys keys) (MapsKeys (with_key keys key)) maps i c.insert.new.self (omega arith) before.1 in
    (done, rest)
