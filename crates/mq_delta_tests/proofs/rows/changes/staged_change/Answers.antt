use Rattle.mq_tables.specs.Staging.{StandsOn}
use Rattle.mq_delta_tests.proofs.FitLemmas.{made_stands}
use Rattle.mq_delta_tests.proofs.rows.changes.staged_change.Goals as goal

pub returns : goal.returns
returns c =
    made_stands (StandsOn c.args.tables.now) c.stage.result c.unless_refused.result c.unless_refused.ensures
    (c.stage.ensures.stands c.requires.fit c.requires.change)
