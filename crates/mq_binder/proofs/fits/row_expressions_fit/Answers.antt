use Rattle.mq_binder.proofs.LawLemmas.{row_expression_fits}
use Rattle.mq_binder.proofs.fits.row_expressions_fit.Goals as goal

pub returns : goal.returns
returns c = row_expression_fits
