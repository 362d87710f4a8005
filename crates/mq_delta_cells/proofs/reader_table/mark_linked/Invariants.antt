use Rattle.mq_delta_cells.proofs.ReaderLemmas.{MarkedTo}
use Rattle.mq_delta_cells.proofs.reader_table.mark_linked.Given as goal

abbrev pub invariant-marking : goal.invariant-marking
invariant-marking l = MarkedTo l.links l.fn.last l.fn.due.items l.left l.next l.due.items

abbrev pub decreases-marking : goal.decreases-marking
decreases-marking l = l.left
