use Rattle.std.proofs.Common.{◌≡◌, drop}
use Rattle.mq_ir.specs.Printing.{cmp_columns}
use Rattle.mq_answers.proofs.printing.cmp_ordered.Given as goal

-- the columns so far are the same in both rows
abbrev pub invariant-loop-number : goal.invariant-loop-number
invariant-loop-number g l =
    cmp_columns (drop l.number-index l.order) (g.R.Columns.columns l.a) (g.R.Columns.columns l.b)
    ≡ cmp_columns l.order (g.R.Columns.columns l.a) (g.R.Columns.columns l.b)
