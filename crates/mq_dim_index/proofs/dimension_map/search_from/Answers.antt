use Rattle.std.proofs.Common.{rules, of_calls}
use Rattle.std.proofs.lemmas.Fn.{always_returns_same}
use Rattle.mq_dim_index.specs.Runs.{cmp_from}
use Rattle.mq_dim_index.proofs.MapLemmas.{searched_from}
use Rattle.mq_dim_index.proofs.dimension_map.search_from.Goals as goal

pub returns-clause-found : goal.returns-clause-found
returns-clause-found c =
    let at = c.args.dimension in
    let key = c.args.key.now in
    let told = c.binary_search_by.ensures.position (λ k. cmp_from at k key) (always_returns_same _ _ _ (λ a r f k. search (rules, of_calls))) in
    (searched_from at c.args.keys.now key c.requires c.binary_search_by.result c.binary_search_by.ensures.bound told).0

pub returns-clause-absent : goal.returns-clause-absent
returns-clause-absent c =
    let at = c.args.dimension in
    let key = c.args.key.now in
    let told = c.binary_search_by.ensures.position (λ k. cmp_from at k key) (always_returns_same _ _ _ (λ a r f k. search (rules, of_calls))) in
    (searched_from at c.args.keys.now key c.requires c.binary_search_by.result c.binary_search_by.ensures.bound told).1
