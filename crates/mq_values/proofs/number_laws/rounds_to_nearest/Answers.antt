use Rattle.mq_values.proofs.RoundingLemmas.{rounds}
use Rattle.mq_values.proofs.number_laws.rounds_to_nearest.Goals as goal

pub returns : goal.returns
returns c = rounds
