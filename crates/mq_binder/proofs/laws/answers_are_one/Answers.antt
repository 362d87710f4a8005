use Rattle.mq_binder.proofs.AnswerLemmas.{one_answer}
use Rattle.mq_binder.proofs.laws.answers_are_one.Goals as goal

pub returns : goal.returns
returns c = one_answer
