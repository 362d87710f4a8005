use Rattle.std.proofs.Common.{◌++◌, List, ℕ, ap, ◌∙◌}
use Rattle.std.proofs.lemmas.Result.{on_ok_weaker}
use Rattle.mq_auto_shape.specs.declared.lane_reads.LaneRun.{LaneRun}
use Rattle.mq_refs.specs.LookParts.{is_within}
use Rattle.std.proofs.Common.{length, subst}
use Rattle.mq_auto_shape.specs.LaneRuns.{numbers_of}
use Rattle.mq_auto_shape.proofs.PartLemmas.{cell_part, run_part, run_pushed}
use Rattle.mq_auto_shape.proofs.parts.push_part.Goals as goal

pub returns-in-Measure : goal.returns-in-Measure
returns-in-Measure c =
    let numbers = c.args.numbers.now in
    let lanes = numbers.lanes in
    let had = numbers_of lanes c.args.runs.now in
    on_ok_weaker c.push_cell.result
    (λ h. h ∙ ap (λ (l : List ℕ). had ++ l) (cell_part numbers c.in-Measure.name c.args.part.now c.in-Measure.is)) c.push_cell.ensures

pub returns-in-Run : goal.returns-in-Run
returns-in-Run c =
    let numbers = c.args.numbers.now in
    let lanes = numbers.lanes in
    let run : LaneRun = record { measure = c.in-Run.measure; first = c.in-Run.first; past = c.in-Run.past } in
    let within = subst (is_within (length numbers.keys)) c.in-Run.is c.requires.within in
    on_ok_weaker c.push.result
    (λ h. ap (numbers_of lanes) h
    ∙ run_pushed lanes c.args.runs.now run _ (run_part numbers c.in-Run.measure c.in-Run.first c.in-Run.past c.args.part.now c.requires.ascend within c.in-Run.is))
    c.push.ensures.ok
