use Rattle.std.proofs.Common.{◌≡◌, take}
use Rattle.mq_unfold.proofs.left_sides.same_order.Given as goal

abbrev pub invariant-loop-key : goal.invariant-loop-key
invariant-loop-key l = l.keys ≡ take l.key-index l.order
