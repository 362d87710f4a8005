use Rattle.std.proofs.Common.{◌≡◌}
use Rattle.mq_answers.specs.KeptStretches.{parts_in}
use Rattle.mq_answers.proofs.kept_answers.parts_of.Given as goal

abbrev pub invariant-loop-stretch : goal.invariant-loop-stretch
invariant-loop-stretch g l = l.parts.items ≡ parts_in l.yielded
