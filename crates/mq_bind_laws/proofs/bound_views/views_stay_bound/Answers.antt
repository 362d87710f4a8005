use Rattle.mq_bind_laws.proofs.ViewLemmas.{views_stay}
use Rattle.mq_bind_laws.proofs.bound_views.views_stay_bound.Goals as goal

pub returns : goal.returns
returns c = views_stay
