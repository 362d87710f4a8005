use Rattle.std.proofs.Common.{[]}
use Rattle.mq_delta_tests.proofs.FitLemmas.{delete_fits}
use Rattle.mq_delta_tests.proofs.rows.changes.delete.Goals as goal

pub returns-clause-fits : goal.returns-clause-fits
returns-clause-fits c = delete_fits [] _ c.in_ok-chosen.ensures
