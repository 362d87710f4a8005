use Rattle.mq_tables.specs.Staging.{StandsOn}
use Rattle.mq_delta_tests.proofs.FitLemmas.{last_stands}
use Rattle.mq_delta_tests.proofs.rows.changes.held.Goals as goal

pub returns : goal.returns
returns c = last_stands (StandsOn c.args.tables.now) _ _ _ _ c.pop.ensures.items c.into_staged.ensures c.loop-step.invariant
