use Rattle.std.proofs.Common.{◌≡◌}
use Rattle.mq_ir.specs.Combinations.{combinations}
use Rattle.mq_unfold.proofs.fronts.combined.Given as goal

abbrev pub invariant-loop-spread : goal.invariant-loop-spread
invariant-loop-spread l = l.fronts ≡ combinations l.yielded
