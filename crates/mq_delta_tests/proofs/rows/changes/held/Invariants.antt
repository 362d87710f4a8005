use Rattle.std.specs.Prelude.{All}
use Rattle.mq_tables.specs.Staging.{StandsOn}
use Rattle.mq_delta_tests.proofs.rows.changes.held.Given as goal

abbrev pub invariant-loop-step : goal.invariant-loop-step
invariant-loop-step l = All (StandsOn l.fn.tables) l.pending
