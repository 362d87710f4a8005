use Rattle.std.proofs.Common.{◌∷◌, ◌++◌, [], Some, sym, ap, ◌∙◌}
use Rattle.std.proofs.lemmas.List.{append-nil}
use Rattle.mq_ir.specs.declared.query.Slot.{Slot}
use Rattle.mq_cells.specs.Replays.{looks_by, results_by, slots_by, with_result}
use Rattle.mq_cells.proofs.replays.make.Goals as goal

pub returns-in_ok-push-in-Get-clause-slots : goal.returns-in_ok-push-in-Get-clause-slots
returns-in_ok-push-in-Get-clause-slots g c =
    let before = c.args.slots.now.items in
    c.in_ok-push-in-Get.ensures.items ∙ ap (λ (s : Slot). before ++ s ∷ []) c.in_ok-get-in-Get.ensures.slot
    ∙ ap (λ call. before ++ slots_by (g.C.Cells.input c.args.cells.now) (g.C.Cells.results c.args.cells.now) call) (sym c.in-Get.is)

pub returns-in_ok-push-in-Get-clause-results : goal.returns-in_ok-push-in-Get-clause-results
returns-in_ok-push-in-Get-clause-results g c = c.get.ensures.same_results ∙ ap (results_by (g.C.Cells.results c.args.cells.now)) (sym c.in-Get.is)

pub returns-in_ok-push-in-Get-clause-looks : goal.returns-in_ok-push-in-Get-clause-looks
returns-in_ok-push-in-Get-clause-looks g c = c.in_ok-get-in-Get.ensures.count ∙ ap (looks_by (g.C.Cells.looks c.args.cells.now)) (sym c.in-Get.is)

pub returns-in_ok-put-in-Put-clause-slots : goal.returns-in_ok-put-in-Put-clause-slots
returns-in_ok-put-in-Put-clause-slots g c =
    let before = c.args.slots.now.items in
    sym (append-nil before) ∙ ap (λ call. before ++ slots_by (g.C.Cells.input c.args.cells.now) (g.C.Cells.results c.args.cells.now) call) (sym c.in-Put.is)

pub returns-in_ok-put-in-Put-clause-results : goal.returns-in_ok-put-in-Put-clause-results
returns-in_ok-put-in-Put-clause-results g c =
    (λ i name. c.in_ok-put-in-Put.ensures.ok name i) ∙ ap (λ (s : Slot). with_result (g.C.Cells.results c.args.cells.now) c.in-Put.name (Some s)) c.in_ok-copy_slot-in-Put.ensures
    ∙ ap (results_by (g.C.Cells.results c.args.cells.now)) (sym c.in-Put.is)

pub returns-in_ok-put-in-Put-clause-looks : goal.returns-in_ok-put-in-Put-clause-looks
returns-in_ok-put-in-Put-clause-looks g c = c.put.ensures.same_looks ∙ ap (looks_by (g.C.Cells.looks c.args.cells.now)) (sym c.in-Put.is)

pub returns-in-Clear-clause-slots : goal.returns-in-Clear-clause-slots
returns-in-Clear-clause-slots g c =
    let before = c.args.slots.now.items in
    sym (append-nil before) ∙ ap (λ call. before ++ slots_by (g.C.Cells.input c.args.cells.now) (g.C.Cells.results c.args.cells.now) call) (sym c.in-Clear.is)

pub returns-in-Clear-clause-results : goal.returns-in-Clear-clause-results
returns-in-Clear-clause-results g c = (λ i name. c.clear.ensures.done name i) ∙ ap (results_by (g.C.Cells.results c.args.cells.now)) (sym c.in-Clear.is)

pub returns-in-Clear-clause-looks : goal.returns-in-Clear-clause-looks
returns-in-Clear-clause-looks g c = c.clear.ensures.same_looks ∙ ap (looks_by (g.C.Cells.looks c.args.cells.now)) (sym c.in-Clear.is)
