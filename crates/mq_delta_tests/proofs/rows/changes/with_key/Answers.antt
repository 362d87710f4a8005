use Rattle.mq_delta_tests.proofs.FitLemmas.{key_fits}
use Rattle.mq_delta_tests.proofs.rows.changes.with_key.Goals as goal

pub returns : goal.returns
returns c = key_fits c.compare.result _ _ _ c.compare.ensures c.place.ensures
