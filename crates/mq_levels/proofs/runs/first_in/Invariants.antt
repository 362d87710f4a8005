use Rattle.std.proofs.Common.{◌≡◌, [], take}
use Rattle.mq_levels.specs.Runs.{written}
use Rattle.mq_levels.proofs.runs.first_in.Given as goal

abbrev pub invariant-loop-run : goal.invariant-loop-run
invariant-loop-run l = written (take l.run-index l.runs) ≡ []
