use Rattle.std.specs.List.{zip}
use Rattle.mq_unfold.specs.Rows.{pair_listed}
use Rattle.mq_scalar.specs.WalkLaws.{Walked}
use Rattle.mq_unfold.proofs.sources.evaluated_row.Given as goal

abbrev pub invariant-loop-i : goal.invariant-loop-i
invariant-loop-i l = Walked (pair_listed l.turn) (zip l.kinds l.row) l.i l.places
