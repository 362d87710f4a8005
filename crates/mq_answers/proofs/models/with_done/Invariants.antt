use Rattle.mq_ir.specs.Unfolding.{model_of}
use Rattle.mq_answers.specs.Stretches.{with_stretch}
use Rattle.mq_answers.proofs.StretchLemmas.{Handed}
use Rattle.mq_answers.proofs.models.with_done.Given as goal

abbrev pub invariant-loop-stretch : goal.invariant-loop-stretch
invariant-loop-stretch g l = Handed (with_stretch (model_of l.m)) l.fn.gathered l.yielded l.gathered
