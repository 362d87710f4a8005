use Rattle.mq_binder.proofs.LawLemmas.{measures_are}
use Rattle.mq_binder.proofs.fits.measures_are_named.Goals as goal

pub returns : goal.returns
returns c = measures_are
