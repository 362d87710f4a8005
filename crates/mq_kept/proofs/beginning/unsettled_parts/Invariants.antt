use Rattle.std.proofs.Common.{◌≡◌, map}
use Rattle.mq_kept.specs.Kept.{unsettled}
use Rattle.mq_kept.proofs.beginning.unsettled_parts.Given as goal

abbrev pub invariant-loop-input : goal.invariant-loop-input
invariant-loop-input l = l.parts ≡ map unsettled l.yielded
