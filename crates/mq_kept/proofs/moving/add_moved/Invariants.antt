use Rattle.mq_kept.proofs.MovedLemmas.{AddedBelow}
use Rattle.mq_kept.proofs.moving.add_moved.Given as goal

abbrev pub invariant-measures : goal.invariant-measures
invariant-measures l = AddedBelow l.key l.were l.are l.fn.moved.items l.measure l.moved.items
