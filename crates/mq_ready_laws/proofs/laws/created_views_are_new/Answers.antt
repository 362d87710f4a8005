use Rattle.mq_ready_laws.proofs.StatementLemmas.{view_is_new}
use Rattle.mq_ready_laws.proofs.laws.created_views_are_new.Goals as goal

pub returns : goal.returns
returns c = view_is_new
