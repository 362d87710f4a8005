use Rattle.std.proofs.Common.{arith}
use Rattle.mq_generate.proofs.ScriptLemmas.{length-statements}
use Rattle.mq_generate.proofs.script.statement_count.Goals as goal

pub returns : goal.returns
returns c = λ number. omega (arith, length-statements number c.args.size)
