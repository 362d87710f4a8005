use Rattle.std.proofs.Common.{rules, of_calls, ap, ◌∙◌}
use Rattle.std.specs.Ordering.{is_lt}
use Rattle.std.proofs.lemmas.Fn.{always_returns_same}
use Rattle.std.proofs.lemmas.List.Sorted.{ranks_by}
use Rattle.mq_ir.specs.Keys.{Tuple}
use Rattle.mq_ir.specs.Partitions.{ascending}
use Rattle.mq_shape.specs.Runs.{by_parts}
use Rattle.mq_shape.proofs.RunLemmas.{all_taken, parts_total}
use Rattle.mq_ir.specs.SortLaws.{stable_is_ascending}
use Rattle.mq_shape.proofs.runs.ascending.Goals as goal

pub returns : goal.returns
returns c =
    let parts = c.args.parts in
    let total = parts_total parts in
    let test = λ (a b : Tuple). is_lt (by_parts parts a b) in
    let weak = ranks_by total (λ k. k) in
    let answers = always_returns_same _ _ _ (λ a r f k. search (rules, of_calls)) in
    stable_is_ascending total c.loop-item.rows.items c.sort_by.new.self.items
    (c.in_ok-sort_by.ensures.sorted test weak answers)
    (c.in_ok-sort_by.ensures.stable test weak answers)
    ∙ ap (ascending (by_parts parts)) (c.loop-item.invariant ∙ all_taken c.loop-item.item-index c.args.items.now c.loop-item-test.false)
