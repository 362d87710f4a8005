use Rattle.std.proofs.Common.{rules, of_calls}
use Rattle.std.proofs.lemmas.Fn.{always_returns_same}
use Rattle.mq_auto_shape.specs.Walk.{cmp_measure}
use Rattle.mq_auto_shape.proofs.NodeLemmas.{searched}
use Rattle.mq_auto_shape.proofs.nodes.search.Goals as goal

pub returns : goal.returns
returns c =
    let key = c.args.key.now in
    let m = c.args.m in
    let told = c.binary_search_by.ensures.position (λ a. cmp_measure a (key, m, 0)) (always_returns_same _ _ _ (λ a r f k. search (rules, of_calls))) in
    searched (key, m, 0) c.args.nodes.now c.requires c.binary_search_by.result c.binary_search_by.ensures.bound told
