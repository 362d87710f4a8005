use Rattle.std.proofs.Common.{◌≡◌, ◌++◌, map}
use Rattle.mq_ir.specs.Answer.{columns_of, returned}
use Rattle.mq_answers.proofs.gathering.with_cells.Given as goal

abbrev pub invariant-loop-cell : goal.invariant-loop-cell
invariant-loop-cell l = l.rows.items ≡ l.fn.gathered.1 ++ map (columns_of l.key) (returned l.m.part.now l.yielded)
