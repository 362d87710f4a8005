use Rattle.std.proofs.Common.{rules, of_calls}
use Rattle.std.specs.Ordering.{is_lt}
use Rattle.std.proofs.lemmas.Fn.{always_returns_same}
use Rattle.mq_values.specs.Order.{cmp_key}
use Rattle.mq_cells.specs.AscentLaws.{told_ascending}
use Rattle.mq_cells.proofs.search.keys_ascend.Goals as goal

pub returns : goal.returns
returns c =
    told_ascending (λ k. k) c.args.keys.now c.is_sorted_by.result
    (c.is_sorted_by.ensures.cases (λ a b. is_lt (cmp_key a b)) (always_returns_same _ _ _ (λ a r f k. search (rules, of_calls))))
