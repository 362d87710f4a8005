use Rattle.std.proofs.Common.{take}
use Rattle.mq_levels.specs.Numbers.{AreMarked}
use Rattle.mq_levels.proofs.marking.mark.Given as goal

abbrev pub invariant-loop-node : goal.invariant-loop-node
invariant-loop-node l = AreMarked (take l.node-index l.nodes) l.number l.initial.numbers l.numbers
