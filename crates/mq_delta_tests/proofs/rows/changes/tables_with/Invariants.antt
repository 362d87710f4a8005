use Rattle.mq_tables.specs.Held.{RowsFit}
use Rattle.mq_delta_tests.proofs.rows.changes.tables_with.Given as goal

abbrev pub invariant-loop-row : goal.invariant-loop-row
invariant-loop-row l = RowsFit l.tables
