use Rattle.mq_delta_cells.proofs.DueLemmas.{moved_next}
use Rattle.mq_delta_cells.proofs.dues.due_by_moved.Goals as goal

pub marking-preserved : goal.marking-preserved
marking-preserved c =
    moved_next c.args.work.now.course.now.cells c.args.work.now.course.now.readers c.args.work.now.seeds.now.moved.now c.marking.name-index c.name-item.result c.marking.due.items c.mark_readers.new.due.items
    c.marking-test.true c.name-item.is c.in_ok-mark_readers.ensures c.marking.invariant
