use Rattle.std.proofs.Common.{sym, ap, ◌∙◌}
use Rattle.std.specs.List.{list_any}
use Rattle.std.proofs.lemmas.Result.{IfOk-weaker}
use Rattle.mq_refs.specs.declared.parts.LookPart.{LookPart}
use Rattle.mq_refs.specs.LookParts.{looks_of_part}
use Rattle.mq_delta_cells.specs.Walks.{ground_of, is_known_in}
use Rattle.mq_delta_cells.proofs.PartLemmas.{one_known}
use Rattle.mq_delta_cells.proofs.parts.is_part_known.Goals as goal

pub returns-in-Measure : goal.returns-in-Measure
returns-in-Measure c =
    let known = is_known_in (ground_of c.args.work.now) c.args.changed.now in
    let set = c.args.work.now.course.now.cells in
    IfOk-weaker c.is_measure_known.result _ _
    (λ some h. h ∙ sym (one_known known set c.in-Measure.name) ∙ ap (λ (p : LookPart). list_any known (looks_of_part set p)) (sym c.in-Measure.is)) c.is_measure_known.ensures

pub returns-in-Run : goal.returns-in-Run
returns-in-Run c =
    let known = is_known_in (ground_of c.args.work.now) c.args.changed.now in
    let set = c.args.work.now.course.now.cells in
    IfOk-weaker c.is_run_known.result _ _ (λ some h. h ∙ ap (λ (p : LookPart). list_any known (looks_of_part set p)) (sym c.in-Run.is)) c.is_run_known.ensures
