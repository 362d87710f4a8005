use Rattle.std.proofs.Common.{List, subst}
use Rattle.std.proofs.lemmas.Result.{on_ok_weaker}
use Rattle.mq_ir.specs.Keys.{Tuple}
use Rattle.mq_cells.specs.Stores.{name_assigned}
use Rattle.mq_delta_cells.specs.Marks.{MarksBy}
use Rattle.mq_delta_cells.specs.Walks.{model_at}
use Rattle.mq_delta_cells.proofs.StepLemmas.{slot_put}
use Rattle.mq_delta_cells.proofs.visiting.assign.Goals as goal

pub returns-clause-assigned : goal.returns-clause-assigned
returns-clause-assigned g c =
    let model = model_at c.args.work.now in
    let a = c.args.a.now in
    on_ok_weaker c.mark_readers.result
    (λ _. record {
      put =
          λ rule at.
          slot_put model c.args.work.now.shape.now (g.C.Cells.input c.args.cells.now) (g.C.Cells.results c.args.cells.now) (g.C.Cells.results c.slot_for.new.cells) (g.C.Cells.results c.put.new.self)
          a rule c.in_ok-slot.slot c.in_ok-slot.ensures.same_results (c.in_ok-slot.ensures.exact rule at) c.in_ok-put.ensures.ok;
      noted = subst (λ (keys : List Tuple). MarksBy keys c.args.changed.now c.put-2.new.self (name_assigned a)) c.requires.course.cells c.in_ok-put-2.ensures;
    }) c.mark_readers.ensures
