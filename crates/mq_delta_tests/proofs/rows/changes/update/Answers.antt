use Rattle.std.proofs.Common.{[]}
use Rattle.mq_delta_tests.proofs.FitLemmas.{update_fits}
use Rattle.mq_delta_tests.proofs.rows.changes.update.Goals as goal

pub returns-clause-fits : goal.returns-clause-fits
returns-clause-fits c = update_fits [] _ _ _ c.in_ok-sets.ensures c.in_ok-chosen.ensures
