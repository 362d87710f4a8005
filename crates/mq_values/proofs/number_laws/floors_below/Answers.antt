use Rattle.mq_values.proofs.RoundingLemmas.{floors}
use Rattle.mq_values.proofs.number_laws.floors_below.Goals as goal

pub returns : goal.returns
returns c = floors
