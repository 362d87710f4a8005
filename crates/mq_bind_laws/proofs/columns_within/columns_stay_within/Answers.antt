use Rattle.mq_bind_laws.proofs.ColumnLemmas.{stays_within}
use Rattle.mq_bind_laws.proofs.columns_within.columns_stay_within.Goals as goal

pub returns : goal.returns
returns c = stays_within c.schemas_fit.ensures
