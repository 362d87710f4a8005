use Rattle.std.proofs.Common.{take}
use Rattle.mq_auto_shape.specs.Edges.{AreWanted}
use Rattle.mq_auto_shape.proofs.wanted.wanted_of.Given as goal

abbrev pub invariant-assigned : goal.invariant-assigned
invariant-assigned l = AreWanted l.wanted.items (take l.a-index l.assigned)
