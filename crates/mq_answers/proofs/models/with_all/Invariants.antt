use Rattle.mq_ir.specs.Unfolding.{model_of}
use Rattle.mq_answers.specs.Stretches.{with_found}
use Rattle.mq_answers.proofs.StretchLemmas.{Handed}
use Rattle.mq_answers.proofs.models.with_all.Given as goal

abbrev pub invariant-loop-next : goal.invariant-loop-next
invariant-loop-next l = Handed (with_found (model_of l.m)) l.fn.gathered l.yielded l.gathered
