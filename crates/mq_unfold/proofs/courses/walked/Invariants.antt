use Rattle.std.proofs.Common.{◌≡◌}
use Rattle.mq_unfold.specs.Steps.{stepped}
use Rattle.mq_unfold.proofs.StepLemmas.{number_after}
use Rattle.mq_unfold.proofs.courses.walked.Given as goal

abbrev pub invariant-loop-taken : goal.invariant-loop-taken
invariant-loop-taken l = record {
  so_far : l.places ≡ stepped l.down l.course l._taken;
  stands : l.n ≡ number_after l.down l.course l._taken;
}
