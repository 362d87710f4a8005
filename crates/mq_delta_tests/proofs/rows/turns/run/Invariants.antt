use Rattle.mq_tables.specs.Held.{RowsFit}
use Rattle.mq_delta_tests.proofs.rows.turns.run.Given as goal

abbrev pub invariant-turns : goal.invariant-turns
invariant-turns l = RowsFit l.tables
