use Rattle.std.proofs.Common.{[]}
use Rattle.mq_delta_tests.proofs.FitLemmas.{insert_fits}
use Rattle.mq_delta_tests.proofs.rows.changes.insert.Goals as goal

pub returns-clause-fits : goal.returns-clause-fits
returns-clause-fits c = insert_fits [] _ _ _ _ c.in_ok-rows.ensures c.in_ok-row.ensures
