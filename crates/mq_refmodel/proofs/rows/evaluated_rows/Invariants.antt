use Rattle.mq_scalar.specs.WalkLaws.{Walked}
use Rattle.mq_refmodel.specs.Arrays.{row_found}
use Rattle.mq_refmodel.proofs.rows.evaluated_rows.Given as goal

abbrev pub invariant-loop-row : goal.invariant-loop-row
invariant-loop-row l = Walked (row_found l.q) l.rows l.row-index l.cells
