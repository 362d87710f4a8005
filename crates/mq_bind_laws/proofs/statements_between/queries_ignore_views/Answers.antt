use Rattle.mq_bind_laws.proofs.StateLemmas.{views_ignored}
use Rattle.mq_bind_laws.proofs.statements_between.queries_ignore_views.Goals as goal

pub returns : goal.returns
returns c = views_ignored
