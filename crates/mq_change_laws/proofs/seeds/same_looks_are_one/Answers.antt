use Rattle.mq_change_laws.proofs.StepLemmas.{same_are_one}
use Rattle.mq_change_laws.proofs.seeds.same_looks_are_one.Goals as goal

pub returns : goal.returns
returns c = same_are_one
