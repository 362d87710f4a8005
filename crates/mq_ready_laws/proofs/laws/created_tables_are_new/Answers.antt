use Rattle.mq_ready_laws.proofs.StatementLemmas.{table_is_new}
use Rattle.mq_ready_laws.proofs.laws.created_tables_are_new.Goals as goal

pub returns : goal.returns
returns c = table_is_new
