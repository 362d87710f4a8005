use Rattle.mq_binder.proofs.LawLemmas.{schema_is}
use Rattle.mq_binder.proofs.fits.schemas_fit.Goals as goal

pub returns : goal.returns
returns c = schema_is
