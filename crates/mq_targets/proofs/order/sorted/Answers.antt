use Rattle.std.proofs.Common.{rules, of_calls}
use Rattle.std.specs.Ordering.{is_lt}
use Rattle.std.proofs.lemmas.Fn.{always_returns_same}
use Rattle.std.proofs.lemmas.List.Filters.{dedup_is}
use Rattle.std.proofs.lemmas.List.Sorted.{ranks_by}
use Rattle.mq_targets.specs.Choice.{cmp_by}
use Rattle.mq_targets.proofs.OrderLemmas.{by_total, sorted_once}
use Rattle.mq_targets.proofs.order.sorted.Goals as goal

pub returns : goal.returns
returns c =
    let order = c.args.order.now in
    let rises =
    c.in_ok-sort_by.ensures.sorted (λ a b. is_lt (cmp_by order a b)) (ranks_by (by_total order) (λ k. k)) (always_returns_same _ _ _ (λ a r f k. search (rules, of_calls)))
    in
    sorted_once order c.args.keys.items c.sort_by.new.self.items c.dedup.new.self.items c.in_ok-sort_by.ensures.permutation rises (dedup_is _ _ _ c.dedup.ensures.filtered)
