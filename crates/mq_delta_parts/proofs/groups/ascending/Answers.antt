use Rattle.std.proofs.Common.{rules, of_calls}
use Rattle.std.specs.Ordering.{is_lt}
use Rattle.std.proofs.lemmas.Fn.{always_returns_same}
use Rattle.std.proofs.lemmas.List.Sorted.{ranks_by}
use Rattle.mq_ir.specs.SortLaws.{stable_is_ascending}
use Rattle.mq_delta_parts.specs.Groups.{Change, by_key}
use Rattle.mq_delta_parts.proofs.GroupLemmas.{total}
use Rattle.mq_delta_parts.proofs.groups.ascending.Goals as goal

pub returns : goal.returns
returns c =
    let parts = c.args.parts in
    let test = λ (a b : Change). is_lt (by_key parts a b) in
    let weak = ranks_by (total parts) (λ k. k) in
    let answers = always_returns_same _ _ _ (λ a r f k. search (rules, of_calls)) in
    stable_is_ascending (total parts) c.args.changes.items c.sort_by.new.self.items
    (c.in_ok-sort_by.ensures.sorted test weak answers)
    (c.in_ok-sort_by.ensures.stable test weak answers)
