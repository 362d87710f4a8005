use Rattle.mq_tables.specs.Staging.{ChangeFits}
use Rattle.mq_delta_tests.proofs.FitLemmas.{boxed_stands}
use Rattle.mq_delta_tests.proofs.rows.changes.change_of.Goals as goal

pub returns : goal.returns
returns c = boxed_stands (ChangeFits c.args.tables.now) c.fitting.result c.boxed.result c.boxed.ensures c.fitting.ensures
