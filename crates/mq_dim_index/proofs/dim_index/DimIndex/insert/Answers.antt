use Rattle.std.proofs.Common.{◌≡◌, false, get_or, length, subst, ap, ◌∙◌, arith}
use Rattle.std.specs.List.{All}
use Rattle.std.proofs.lemmas.List.Edits.{get_or-insert_at}
use Rattle.mq_dim_index.specs.Maps.{MapsKeys}
use Rattle.std.specs.List.Sorted.{IsStrictlySortedBy}
use Rattle.mq_values.specs.Order.{cmp_key}
use Rattle.mq_values.specs.OrderLaws.{key_total}
use Rattle.mq_dim_index.specs.Places.{is_there, with_key}
use Rattle.mq_dim_index.proofs.PlaceLemmas.{sorted_inserted}
use Rattle.mq_dim_index.proofs.dim_index.DimIndex.insert.Goals as goal

-- the key is there
pub returns-in_default-clause-ok : goal.returns-in_default-clause-ok
returns-in_default-clause-ok c = let kept = c.in_default.ensures.found.kept in cc

pub invariant_of-self-2 : goal.invariant_of-self-2
invariant_of-self-2 c =
    let within = c.in-Err.ensures.absent.within in
    let all = ap length c.deref.ensures.value in
    let inserted = c.in-Err.ensures.absent.inserted in
    let e : with_key c.self.inside.keys.items c.args.key ≡ c.insert.new.self.items = cc (inserted, c.in_ok-insert.ensures.items) in
    let placed : c.index.result.now ≡ c.args.key =
    c.index.ensures
    ∙ ap (λ l. get_or l c.in-Err.at c.index.result.now) c.in_ok-insert.ensures.items
    ∙ get_or-insert_at c.self.inside.keys.items c.in-Err.at c.args.key c.index.result.now (omega (arith, within, all)) in
    let new : is_there c.self.inside.keys.items c.index.result.now ≡ false = cc (placed, c.in-Err.ensures.absent.lacking, c.deref.ensures.value, c.as_slice.ensures) in
    let mapped : All (MapsKeys c.insert.new.self.items) c.add_to_maps.new.maps.items =
    subst (λ l. All (MapsKeys l) c.add_to_maps.new.maps.items) (ap (with_key c.self.inside.keys.items) placed ∙ e) (c.add_to_maps.ensures c.self.inside.keys.items c.self.invariant.2 new) in
    (subst (IsStrictlySortedBy cmp_key) e (sorted_inserted key_total c.args.key c.self.inside.keys.items c.self.invariant.0), omega (arith, c.in_ok-insert.ensures.len), mapped)
