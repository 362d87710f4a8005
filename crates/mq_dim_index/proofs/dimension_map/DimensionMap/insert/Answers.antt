use Rattle.std.proofs.Common.{◌≡◌, subst}
use Rattle.std.specs.BTreeSet.{insert_key}
use Rattle.std.specs.List.Sorted.{IsStrictlySortedBy}
use Rattle.mq_dim_index.specs.Runs.{cmp_from}
use Rattle.mq_dim_index.proofs.MapLemmas.{from_total}
use Rattle.mq_dim_index.proofs.PlaceLemmas.{sorted_inserted}
use Rattle.mq_dim_index.proofs.dimension_map.DimensionMap.insert.Goals as goal

pub invariant_of-self-2 : goal.invariant_of-self-2
invariant_of-self-2 c =
    let at = c.self.inside.dimension in
    let keys = c.self.inside.keys.items in
    let inserted = c.in-Err.ensures.absent.inserted in
    let e : insert_key (cmp_from at) keys c.args.key.now ≡ c.insert.new.self.items = cc (inserted, c.in_ok-insert.ensures.items, c.in_ok-copy.ensures) in
    subst (IsStrictlySortedBy (cmp_from at)) e (sorted_inserted (from_total at) c.args.key.now keys c.self.invariant)
