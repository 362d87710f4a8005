use Rattle.mq_ready_laws.proofs.StatementLemmas.{query_is_ready}
use Rattle.mq_ready_laws.proofs.laws.queries_are_ready.Goals as goal

pub returns : goal.returns
returns c = query_is_ready
