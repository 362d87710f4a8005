use Rattle.mq_unfold.specs.Rows.{first_value}
use Rattle.mq_scalar.specs.WalkLaws.{Walked}
use Rattle.mq_unfold.proofs.sources.converted_firsts.Given as goal

abbrev pub invariant-loop-row : goal.invariant-loop-row
invariant-loop-row l = Walked (first_value l.kind) l.rows l.row-index l.places
