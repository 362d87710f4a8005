use Rattle.mq_bind_laws.proofs.ColumnLemmas.{script_within}
use Rattle.mq_bind_laws.proofs.columns_within.scripts_keep_catalogs.Goals as goal

pub returns : goal.returns
returns c = script_within c.schemas_fit.ensures c.measures_are_named.ensures
