use Rattle.mq_change_laws.proofs.StepLemmas.{steps_alike}
use Rattle.mq_change_laws.proofs.seeds.steps_are_alike.Goals as goal

pub returns : goal.returns
returns c = steps_alike c.same_looks_make_the_same_step.ensures
