use Rattle.std.specs.List.{enumerate_from}
use Rattle.mq_ir.specs.Unfolding.{item_places, model_of}
use Rattle.mq_scalar.specs.WalkLaws.{Walked}
use Rattle.mq_unfold.proofs.spreads.spreads_of.Given as goal

abbrev pub invariant-loop-dim : goal.invariant-loop-dim
invariant-loop-dim l = Walked (item_places (model_of l.m) l.turn) (enumerate_from 0 l.items) l.dim l.spreads
