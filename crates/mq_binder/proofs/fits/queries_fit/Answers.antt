use Rattle.mq_binder.proofs.LawLemmas.{query_is}
use Rattle.mq_binder.proofs.fits.queries_fit.Goals as goal

pub returns : goal.returns
returns c = query_is
