use Rattle.std.proofs.Common.{rules, of_calls}
use Rattle.std.proofs.lemmas.Fn.{always_returns_same}
use Rattle.mq_values.specs.Order.{cmp_key}
use Rattle.mq_dim_index.proofs.PlaceLemmas.{searched}
use Rattle.mq_dim_index.proofs.search.search.Goals as goal

pub returns : goal.returns
returns c =
    let key = c.args.key.now in
    let told = c.binary_search_by.ensures.position (λ k. cmp_key k key) (always_returns_same _ _ _ (λ a r f k. search (rules, of_calls))) in
    let found = searched c.args.keys.now key c.requires c.binary_search_by.result c.binary_search_by.ensures.bound told in
    record { found = found.0; absent = found.1 }
