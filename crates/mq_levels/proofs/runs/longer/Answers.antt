use Rattle.std.proofs.Common.{arith}
use Rattle.mq_levels.proofs.RunLemmas.{longer_run}
use Rattle.mq_levels.proofs.runs.longer.Goals as goal

pub returns : goal.returns
returns c = longer_run c.args.run c.args.read (omega arith)
