use Rattle.std.proofs.Common.{◌≡◌, length}
use Rattle.mq_levels.specs.Numbers.{AreDealt}
use Rattle.mq_levels.proofs.dealing.dealt.Given as goal

abbrev pub invariant-loop-node : goal.invariant-loop-node
invariant-loop-node l = (length l.rounds.items ≡ l.count) × AreDealt l.numbers l.node l.rounds.items l.rest
