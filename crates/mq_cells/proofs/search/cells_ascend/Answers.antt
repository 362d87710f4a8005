use Rattle.std.proofs.Common.{rules, of_calls}
use Rattle.std.specs.Ordering.{is_lt}
use Rattle.std.proofs.lemmas.Fn.{always_returns_same}
use Rattle.mq_values.specs.Order.{cmp_key}
use Rattle.mq_ir.specs.Keys.{Tuple}
use Rattle.mq_cells.specs.AscentLaws.{told_ascending}
use Rattle.mq_cells.proofs.search.cells_ascend.Goals as goal

pub returns : goal.returns
returns c =
    told_ascending (λ (cell : Tuple × Tuple). cell.0) c.args.cells.now c.is_sorted_by.result
    (c.is_sorted_by.ensures.cases (λ (a b : Tuple × Tuple). is_lt (cmp_key a.0 b.0)) (always_returns_same _ _ _ (λ a r f k. search (rules, of_calls))))
