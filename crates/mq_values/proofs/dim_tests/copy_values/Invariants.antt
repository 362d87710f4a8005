use Rattle.std.proofs.Common.{◌≡◌, take}
use Rattle.mq_values.proofs.dim_tests.copy_values.Given as goal

abbrev pub invariant-loop-w : goal.invariant-loop-w
invariant-loop-w l = l.copies ≡ take l.w-index l.ws
