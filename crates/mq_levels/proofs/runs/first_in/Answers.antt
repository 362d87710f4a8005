use Rattle.std.proofs.Common.{arith}
use Rattle.mq_levels.proofs.RunLemmas.{start_written}
use Rattle.mq_levels.proofs.runs.first_in.Goals as goal

pub returns-then-run-gt0 : goal.returns-then-run-gt0
returns-then-run-gt0 c = start_written c.args.runs.now c.loop-run.run-index (record { start = 0; count = 0 }) (omega arith) c.if-run-gt0.true
