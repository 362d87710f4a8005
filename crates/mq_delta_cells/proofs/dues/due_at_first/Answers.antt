use Rattle.std.proofs.lemmas.Result.{IfOk-weaker}
use Rattle.mq_delta_cells.specs.Walks.{model_at}
use Rattle.mq_delta_cells.proofs.DueLemmas.{first_due}
use Rattle.mq_delta_cells.proofs.dues.due_at_first.Goals as goal

pub returns-in-None : goal.returns-in-None
returns-in-None c =
    let work = c.args.work.now in
    let seeds = work.seeds.now in
    IfOk-weaker c.due_by_moved.result _ _
    (λ due so.
    first_due (model_at work) seeds.old.now work.shape.now seeds.moved.now work.course.now.cells work.course.now.readers c.requires.course.own c.requires.course.readers
    c.same_looks_are_one.ensures (rw c.in-None.is at c.requires.seeds.differ) due.items so) c.due_by_moved.ensures
