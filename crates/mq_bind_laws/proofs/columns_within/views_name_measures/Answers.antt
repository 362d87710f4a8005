use Rattle.mq_bind_laws.proofs.ColumnLemmas.{views_name}
use Rattle.mq_bind_laws.proofs.columns_within.views_name_measures.Goals as goal

pub returns : goal.returns
returns c = views_name c.measures_are_named.ensures
