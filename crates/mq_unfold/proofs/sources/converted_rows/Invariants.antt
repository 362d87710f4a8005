use Rattle.mq_unfold.specs.Rows.{row_values}
use Rattle.mq_scalar.specs.WalkLaws.{Walked}
use Rattle.mq_unfold.proofs.sources.converted_rows.Given as goal

abbrev pub invariant-loop-row : goal.invariant-loop-row
invariant-loop-row l = Walked (row_values l.kinds) l.rows l.row-index l.places
