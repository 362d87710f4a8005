use Rattle.std.proofs.Common.{◌≡◌, map}
use Rattle.std.specs.List.{range_with_len}
use Rattle.mq_unfold.specs.LeftSides.{place_named}
use Rattle.mq_unfold.proofs.left_sides.in_order.Given as goal

abbrev pub invariant-loop-dim : goal.invariant-loop-dim
invariant-loop-dim l = l.places ≡ map (place_named l.dims l.row) (range_with_len 0 l.dim)
