use Rattle.mq_scalar.specs.WalkLaws.{Walked}
use Rattle.mq_group.specs.Members.{row_found}
use Rattle.mq_group.proofs.evaluation.row_items.Given as goal

abbrev pub invariant-loop-row : goal.invariant-loop-row
invariant-loop-row g l = Walked (row_found g.R.RowValues.values l.items) l.rows l.row-index l.found
