use Rattle.std.proofs.Common.{◌≡◌, take}
use Rattle.mq_kept.proofs.shapes.copy_of_rounds.Given as goal

abbrev pub invariant-loop-round : goal.invariant-loop-round
invariant-loop-round l = l.copy ≡ take l.round-index l.rounds
