use Rattle.mq_bind_laws.proofs.ViewLemmas.{script_keeps}
use Rattle.mq_bind_laws.proofs.bound_views.scripts_keep_views_bound.Goals as goal

pub returns : goal.returns
returns c = script_keeps
