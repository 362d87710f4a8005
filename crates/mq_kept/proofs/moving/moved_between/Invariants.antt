use Rattle.mq_kept.proofs.MovedLemmas.{MovedUpTo}
use Rattle.mq_kept.proofs.moving.moved_between.Given as goal

abbrev pub invariant-cells : goal.invariant-cells
invariant-cells l = MovedUpTo l.before l.after l.cell-index l.moved.items
