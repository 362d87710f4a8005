use Rattle.mq_bind_laws.proofs.RefusalLemmas.{refusal_alters_nothing}
use Rattle.mq_bind_laws.proofs.refused_statements.refusals_alter_nothing.Goals as goal

pub returns : goal.returns
returns c = refusal_alters_nothing
