use Rattle.std.proofs.Common.{◌≡◌, map, take}
use Rattle.mq_ir.specs.Unfolding.{kind_at, model_of}
use Rattle.mq_unfold.proofs.left_sides.kinds_of.Given as goal

abbrev pub invariant-loop-dim : goal.invariant-loop-dim
invariant-loop-dim l = l.kinds ≡ map (kind_at (model_of l.m)) (take l.dim-index l.dims)
