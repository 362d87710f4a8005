use Rattle.std.proofs.Common.{◌≡◌, map}
use Rattle.mq_join.specs.Rows.{rows_in}
use Rattle.mq_sources.specs.declared.joined_rows.JoinedRow.{JoinedRow}
use Rattle.mq_sources.proofs.joined_rows.joined_rows.Given as goal

abbrev pub invariant-loop-row : goal.invariant-loop-row
invariant-loop-row l = map (λ (j : JoinedRow). rows_in j.row) l.joined.items ≡ map rows_in l.yielded
