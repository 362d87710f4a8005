use Rattle.mq_bind_laws.proofs.DropLemmas.{query_outlasts_table}
use Rattle.mq_bind_laws.proofs.dropped_tables.queries_outlast_other_tables.Goals as goal

pub returns : goal.returns
returns c = query_outlasts_table
