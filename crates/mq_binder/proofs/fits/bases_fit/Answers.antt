use Rattle.mq_binder.proofs.LawLemmas.{base_is}
use Rattle.mq_binder.proofs.fits.bases_fit.Goals as goal

pub returns : goal.returns
returns c = base_is
