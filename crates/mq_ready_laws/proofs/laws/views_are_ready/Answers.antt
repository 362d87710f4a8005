use Rattle.mq_ready_laws.proofs.StatementLemmas.{view_is_ready}
use Rattle.mq_ready_laws.proofs.laws.views_are_ready.Goals as goal

pub returns : goal.returns
returns c = view_is_ready
