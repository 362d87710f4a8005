use Rattle.std.proofs.Common.{◌≡◌, take}
use Rattle.mq_ir.specs.Printing.{columns_at}
use Rattle.mq_answers.proofs.printing.columns_at.Given as goal

abbrev pub invariant-loop-number : goal.invariant-loop-number
invariant-loop-number g l = l.values ≡ columns_at (take l.number-index l.numbers) (g.R.Columns.columns l.row)
