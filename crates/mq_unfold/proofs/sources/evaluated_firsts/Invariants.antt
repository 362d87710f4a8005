use Rattle.mq_unfold.specs.Rows.{first_listed}
use Rattle.mq_scalar.specs.WalkLaws.{Walked}
use Rattle.mq_unfold.proofs.sources.evaluated_firsts.Given as goal

abbrev pub invariant-loop-row : goal.invariant-loop-row
invariant-loop-row l = Walked (first_listed l.turn l.kind) l.rows l.row-index l.places
