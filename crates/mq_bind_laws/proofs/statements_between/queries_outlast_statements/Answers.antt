use Rattle.mq_bind_laws.proofs.StateLemmas.{query_outlasts}
use Rattle.mq_bind_laws.proofs.statements_between.queries_outlast_statements.Goals as goal

pub returns : goal.returns
returns c = query_outlasts
