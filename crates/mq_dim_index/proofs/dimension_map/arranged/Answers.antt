use Rattle.std.proofs.Common.{rules, of_calls}
use Rattle.std.specs.Ordering.{is_lt}
use Rattle.std.proofs.lemmas.Fn.{always_returns_same}
use Rattle.std.proofs.lemmas.List.Sorted.{ranks_by, sum_by-IsPermutation}
use Rattle.mq_dim_index.specs.Runs.{cmp_from}
use Rattle.mq_dim_index.proofs.MapLemmas.{from_total, sorted_strictly}
use Rattle.mq_dim_index.proofs.dimension_map.arranged.Goals as goal

pub returns-clause-ascending : goal.returns-clause-ascending
returns-clause-ascending c =
    let at = c.args.dimension in
    let rises =
    c.in_ok-sort_by.ensures.sorted (λ a b. is_lt (cmp_from at a b)) (ranks_by (from_total at) (λ k. k)) (always_returns_same _ _ _ (λ a r f k. search (rules, of_calls)))
    in
    sorted_strictly at c.args.keys.items c.sort_by.new.self.items c.requires c.in_ok-sort_by.ensures.permutation rises

pub returns-clause-same : goal.returns-clause-same
returns-clause-same c f = sum_by-IsPermutation f c.args.keys.items c.sort_by.new.self.items c.in_ok-sort_by.ensures.permutation
