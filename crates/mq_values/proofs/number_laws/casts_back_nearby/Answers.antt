use Rattle.mq_values.proofs.RoundingLemmas.{casts}
use Rattle.mq_values.proofs.number_laws.casts_back_nearby.Goals as goal

pub returns : goal.returns
returns c = casts
