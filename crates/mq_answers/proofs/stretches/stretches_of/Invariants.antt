use Rattle.mq_answers.specs.declared.stretches.Stretch.{Stretch}
use Rattle.mq_answers.specs.Stretches.{CanRun}
use Rattle.mq_answers.proofs.CutLemmas.{Made}
use Rattle.mq_answers.proofs.stretches.stretches_of.Given as goal

abbrev pub invariant-loop-part : goal.invariant-loop-part
invariant-loop-part g l = Made (λ (s : Stretch _). s.inputs) (CanRun l.m) l.yielded l.stretches
