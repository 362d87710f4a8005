use Rattle.mq_unfold.specs.Rows.{row_listed}
use Rattle.mq_scalar.specs.WalkLaws.{Walked}
use Rattle.mq_unfold.proofs.sources.evaluated_rows.Given as goal

abbrev pub invariant-loop-row : goal.invariant-loop-row
invariant-loop-row l = Walked (row_listed l.turn l.kinds) l.rows l.row-index l.places
