use Rattle.std.proofs.Common.{◌≡◌, true, false, ◌∙◌}
use Rattle.std.specs.Ordering.{is_ne}
use Rattle.mq_ir.specs.Printing.{cmp_columns}
use Rattle.mq_answers.proofs.PrintLemmas.{order_decides, print_decides}
use Rattle.mq_answers.proofs.printing.cmp_printed.Goals as goal

pub returns-then-is_ne : goal.returns-then-is_ne
returns-then-is_ne g c =
    let a = g.R.Columns.columns c.args.a.now in
    let b = g.R.Columns.columns c.args.b.now in
    let differs : is_ne (cmp_columns c.args.order.now a b) ≡ true = cc in
    c.cmp_ordered-by_order.ensures ∙ order_decides c.args.order.now c.args.print.now a b differs

pub returns : goal.returns
returns g c =
    let a = g.R.Columns.columns c.args.a.now in
    let b = g.R.Columns.columns c.args.b.now in
    let same : is_ne (cmp_columns c.args.order.now a b) ≡ false = cc in
    c.cmp_shown.ensures ∙ print_decides c.args.order.now c.args.print.now a b same
