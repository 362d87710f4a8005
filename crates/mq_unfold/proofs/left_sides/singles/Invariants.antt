use Rattle.std.proofs.Common.{◌≡◌, map}
use Rattle.mq_ir.specs.Unfolding.{single}
use Rattle.mq_unfold.proofs.left_sides.singles.Given as goal

abbrev pub invariant-loop-places : goal.invariant-loop-places
invariant-loop-places l = l.lefts ≡ map (single l.rule) l.yielded
