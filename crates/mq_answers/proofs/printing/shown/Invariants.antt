use Rattle.std.proofs.Common.{◌≡◌, map, take}
use Rattle.mq_ir.specs.Printing.{columns_at}
use Rattle.mq_answers.proofs.printing.shown.Given as goal

abbrev pub invariant-loop-row : goal.invariant-loop-row
invariant-loop-row g l = l.printed.items ≡ map (λ row. columns_at l.print (g.R.Columns.columns row)) (take l.row-index l.rows)
