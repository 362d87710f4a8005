use Rattle.std.proofs.Common.{◌≡◌, map, take}
use Rattle.mq_ir.specs.Unfolding.{in_order}
use Rattle.mq_unfold.proofs.left_sides.ordered.Given as goal

abbrev pub invariant-loop-row : goal.invariant-loop-row
invariant-loop-row l = l.all ≡ map (in_order l.count l.dims) (take l.row-index l.rows)
