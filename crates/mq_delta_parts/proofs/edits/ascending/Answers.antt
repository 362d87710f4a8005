use Rattle.std.proofs.Common.{rules, of_calls}
use Rattle.std.specs.Cmp.{on_total}
use Rattle.std.specs.Ordering.{is_lt}
use Rattle.std.proofs.lemmas.Fn.{always_returns_same}
use Rattle.std.proofs.lemmas.List.Sorted.{ranks_by}
use Rattle.mq_values.specs.Order.{cmp_key}
use Rattle.mq_values.specs.OrderLaws.{key_total}
use Rattle.mq_ir.specs.SortLaws.{stable_is_ascending}
use Rattle.mq_delta_parts.specs.Edits.{Edit}
use Rattle.mq_delta_parts.proofs.edits.ascending.Goals as goal

pub returns : goal.returns
returns c =
    let total = on_total (λ (edit : Edit). edit.0) key_total in
    let test = λ (a b : Edit). is_lt (cmp_key a.0 b.0) in
    let weak = ranks_by total (λ k. k) in
    let answers = always_returns_same _ _ _ (λ a r f k. search (rules, of_calls)) in
    stable_is_ascending total c.args.edits.items c.sort_by.new.self.items
    (c.in_ok-sort_by.ensures.sorted test weak answers)
    (c.in_ok-sort_by.ensures.stable test weak answers)
