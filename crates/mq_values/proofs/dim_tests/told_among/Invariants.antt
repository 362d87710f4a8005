use Rattle.std.proofs.Common.{◌≡◌, drop}
use Rattle.mq_values.specs.DimTests as spec
use Rattle.mq_values.specs.Truth.{either}
use Rattle.mq_values.proofs.dim_tests.told_among.Given as goal

-- what was told so far, and what the rest says, is what all say
abbrev pub invariant-loop-w : goal.invariant-loop-w
invariant-loop-w l = either l.so_far (spec.is_among l.v (drop l.w-index l.ws)) ≡ spec.is_among l.v l.ws
