use Rattle.std.proofs.Common.{◌≡◌, ◌++◌, drop, length, take, sym, subst, ap, ◌∙◌}
use Rattle.std.specs.List.{All}
use Rattle.std.proofs.Math.Seq.{take-append_seam}
use Rattle.mq_dim_index.specs.Maps.{MapsKeys}
use Rattle.mq_dim_index.specs.Places.{without_key}
use Rattle.mq_dim_index.proofs.maps.take_from_maps.Goals as goal

-- what is lent as a slice is written back whole
pub returns : goal.returns
returns c keys all =
    let new = c.take_from_each.new.maps in
    let old = c.args.maps.now.items in
    let long : c.args.maps.now.len ≡ length new = sym (c.take_from_each.auto.maps ∙ c.as_mut_slice.ensures.len) in
    let whole : take c.args.maps.now.len (new ++ drop (length new) old) ≡ new =
    ap (λ n. take n (new ++ drop (length new) old)) long ∙ take-append_seam new (drop (length new) old) in
    subst (All (MapsKeys (without_key keys c.args.key.now))) (sym whole) (c.take_from_each.ensures keys (subst (All (MapsKeys keys)) (sym c.as_mut_slice.ensures.value) all))
