use Rattle.std.proofs.Common.{◌≡◌, ap, length, subst, arith}
use Rattle.std.specs.BTreeMap.{is_at}
use Rattle.std.specs.List.{All}
use Rattle.std.specs.List.Sorted.{IsStrictlySortedBy}
use Rattle.std.proofs.lemmas.List.Edits.{length-remove}
use Rattle.mq_values.specs.Order.{cmp_key}
use Rattle.mq_dim_index.specs.Maps.{MapsKeys}
use Rattle.mq_dim_index.specs.Places.{without_key}
use Rattle.mq_dim_index.proofs.PlaceLemmas.{sorted_removed}
use Rattle.mq_dim_index.proofs.dim_index.DimIndex.remove.Goals as goal

pub invariant_of-self : goal.invariant_of-self
invariant_of-self c =
    let keys = c.self.inside.keys.items in
    let found = c.in-Ok.ensures.found in
    let e : without_key keys c.args.key.now ≡ c.take_away.new.keys.items = cc (found.removed, c.take_away.ensures) in
    let within = found.below in
    let all = ap length c.deref.ensures.value in
    let shorter = length-remove keys c.in-Ok.at (omega (arith, within, all)) in
    let less = ap length c.take_away.ensures in
    let numbered = c.self.invariant.1 in
    let mapped : All (MapsKeys c.take_away.new.keys.items) c.take_from_maps.new.maps.items =
    subst (λ l. All (MapsKeys l) c.take_from_maps.new.maps.items) e (c.take_from_maps.ensures keys c.self.invariant.2) in
    (subst (IsStrictlySortedBy cmp_key) e (sorted_removed (is_at (cmp_key c.args.key.now)) cmp_key keys c.self.invariant.0), omega (arith, shorter, less, numbered), mapped)

-- the key is not there
pub returns-in_default : goal.returns-in_default
returns-in_default c = let unchanged = c.in_default.ensures.absent.unchanged in cc
