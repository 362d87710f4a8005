use Rattle.mq_values.proofs.RoundingLemmas.{subtracts}
use Rattle.mq_values.proofs.number_laws.subtracts_by_negation.Goals as goal

pub returns : goal.returns
returns c = subtracts
