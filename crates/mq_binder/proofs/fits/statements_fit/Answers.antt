use Rattle.mq_binder.proofs.LawLemmas.{statement_is}
use Rattle.mq_binder.proofs.fits.statements_fit.Goals as goal

pub returns : goal.returns
returns c = statement_is
