use Rattle.std.proofs.Common.{◌≡◌}
use Rattle.mq_shape.proofs.RunLemmas.{InRun}
use Rattle.mq_shape.proofs.runs.run_length.Given as goal

abbrev pub invariant-loop-row : goal.invariant-loop-row
invariant-loop-row l = record { count : l.count ≡ l.row-index; run : InRun l.parts l.first l.rows l.row-index }
