use Rattle.std.proofs.Common.{arith}
use Rattle.mq_values.proofs.TallyLemmas.{average_out}
use Rattle.mq_values.proofs.tally.with_counted.Goals as goal

pub returns-in-None : goal.returns-in-None
returns-in-None c = average_out c.args.n c.args.total c.args.count (omega (arith, c.in-None.ensures))
