use Rattle.mq_answers.specs.declared.kept_stretches.KeptStretch.{KeptStretch}
use Rattle.mq_answers.specs.KeptStretches.{MaySettle}
use Rattle.mq_answers.proofs.CutLemmas.{Made}
use Rattle.mq_answers.proofs.kept_stretches.kept_stretches_of.Given as goal

abbrev pub invariant-loop-part : goal.invariant-loop-part
invariant-loop-part g l = Made (λ (s : KeptStretch _). s.parts.items) (MaySettle l.m) l.yielded l.stretches.items
