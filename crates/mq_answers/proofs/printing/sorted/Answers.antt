use Rattle.std.proofs.Common.{rules, of_calls, ◌∙◌}
use Rattle.std.specs.Cmp.{on_total}
use Rattle.std.specs.Ordering.{on}
use Rattle.std.proofs.lemmas.Fn.{always_returns_same}
use Rattle.mq_ir.specs.Partitions.{ascending}
use Rattle.mq_ir.specs.Printing.{cmp_columns}
use Rattle.mq_answers.specs.Printing.{with_ascending}
use Rattle.mq_answers.proofs.PrintLemmas.{columns_total, sorted_is}
use Rattle.mq_answers.proofs.printing.sorted.Goals as goal

pub returns : goal.returns
returns g c =
    let columns = g.R.Columns.columns in
    let listed = with_ascending c.as_slice-order.result.now c.as_slice-print.result.now in
    sorted_is (on_total columns (columns_total listed)) c.args.rows.items c.sort_by.new.self.items c.in_ok-sort_by.ensures.sorted c.in_ok-sort_by.ensures.stable
    (always_returns_same _ _ _ (λ a r f k. search (rules, of_calls)))
    ∙ (λ i. ascending (on columns (cmp_columns (with_ascending (c.as_slice-order.ensures i) (c.as_slice-print.ensures i)))) c.args.rows.items)
