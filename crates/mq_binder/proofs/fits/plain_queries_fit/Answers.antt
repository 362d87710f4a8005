use Rattle.mq_binder.proofs.LawLemmas.{plain_is}
use Rattle.mq_binder.proofs.fits.plain_queries_fit.Goals as goal

pub returns : goal.returns
returns c = plain_is
