use Rattle.mq_values.proofs.NumberApartLemmas.{apart}
use Rattle.mq_values.proofs.number_laws.prints_apart.Goals as goal

pub returns : goal.returns
returns c = apart
