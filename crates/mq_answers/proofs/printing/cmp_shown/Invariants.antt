use Rattle.std.proofs.Common.{◌≡◌, drop, false, map}
use Rattle.mq_ir.specs.Printing.{cmp_columns}
use Rattle.mq_answers.proofs.printing.cmp_shown.Given as goal

-- the columns so far are the same in both rows
abbrev pub invariant-loop-number : goal.invariant-loop-number
invariant-loop-number g l =
    cmp_columns (map (λ n. (n, false)) (drop l.number-index l.print)) (g.R.Columns.columns l.a) (g.R.Columns.columns l.b)
    ≡ cmp_columns (map (λ n. (n, false)) l.print) (g.R.Columns.columns l.a) (g.R.Columns.columns l.b)
