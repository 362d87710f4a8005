use Rattle.mq_change_laws.proofs.LawLemmas.{other_looks}
use Rattle.mq_change_laws.proofs.seeds.other_looks_are_seeds.Goals as goal

pub returns : goal.returns
returns c = other_looks
