use Rattle.std.proofs.Common.{◌≡◌}
use Rattle.mq_ir.specs.Unfolding.{model_of}
use Rattle.mq_answers.proofs.StretchLemmas.{FoundSoFar}
use Rattle.mq_answers.proofs.stretches.found_in.Given as goal

-- the runner stays that of the model
abbrev pub invariant-loop-p : goal.invariant-loop-p
invariant-loop-p g l = (l.runner ≡ model_of l.m) × FoundSoFar (model_of l.m) l.inputs l.p-index l.found
