use Rattle.std.proofs.Common.{◌∷◌, []}
use Rattle.mq_ir.specs.Expression.{ev}
use Rattle.mq_ir.specs.Items.{row_leaves}
use Rattle.mq_scalar.specs.WalkLaws.{Walked}
use Rattle.mq_refmodel.proofs.place.evaluated.Given as goal

abbrev pub invariant-loop-e : goal.invariant-loop-e
invariant-loop-e l = Walked (ev (row_leaves (l.row ∷ []))) l.es l.e-index l.values
