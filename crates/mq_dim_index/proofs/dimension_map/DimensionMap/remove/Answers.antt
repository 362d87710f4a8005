use Rattle.std.proofs.Common.{◌≡◌, subst}
use Rattle.std.specs.BTreeMap.{is_at}
use Rattle.std.specs.List.Sorted.{IsStrictlySortedBy}
use Rattle.std.specs.Set.{remove_key}
use Rattle.mq_dim_index.specs.Runs.{cmp_from}
use Rattle.mq_dim_index.proofs.PlaceLemmas.{sorted_removed}
use Rattle.mq_dim_index.proofs.dimension_map.DimensionMap.remove.Goals as goal

pub invariant_of-self : goal.invariant_of-self
invariant_of-self c =
    let at = c.self.inside.dimension in
    let keys = c.self.inside.keys.items in
    let removed = c.in-Ok.ensures.found.removed in
    let e : remove_key (is_at (cmp_from at c.args.key.now)) keys ≡ c.take_away.new.keys.items = cc (removed, c.take_away.ensures) in
    subst (IsStrictlySortedBy (cmp_from at)) e (sorted_removed (is_at (cmp_from at c.args.key.now)) (cmp_from at) keys c.self.invariant)
