use Rattle.std.proofs.Common.{rules, of_calls}
use Rattle.std.proofs.lemmas.Fn.{always_returns_same}
use Rattle.mq_values.specs.Order.{cmp_key}
use Rattle.mq_refs.proofs.KeyLemmas.{found_among}
use Rattle.mq_refs.proofs.shape_keys.is_there.Goals as goal

pub returns-in-Ok : goal.returns-in-Ok
returns-in-Ok c =
    let key = c.args.key.now in
    let told = c.binary_search_by.ensures.position (λ k. cmp_key k key) (always_returns_same _ _ _ (λ a r f k. search (rules, of_calls))) in
    found_among c.args.keys.now key c.binary_search_by.result _ c.binary_search_by.ensures.bound told c.in-Ok.is
