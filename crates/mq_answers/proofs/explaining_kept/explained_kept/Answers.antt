use Rattle.std.proofs.Common.{List, ap, sym, subst, ◌∙◌}
use Rattle.std.specs.List.{All}
use Rattle.std.specs.Option.{option_copied}
use Rattle.std.proofs.lemmas.Result.{IfOk-weaker}
use Rattle.mq_ir.specs.Explaining.{explained_in}
use Rattle.mq_ir.specs.Unfolding.{Model}
use Rattle.mq_sources.specs.References.{cells_of_arrays}
use Rattle.mq_kept.specs.declared.kept_view.KeptPart.{KeptPart}
use Rattle.mq_kept.specs.Kept.{IsRight, model_with}
use Rattle.mq_answers.proofs.KeptExplainLemmas.{told_found, told_missing}
use Rattle.mq_answers.proofs.explaining_kept.explained_kept.Goals as goal

pub explained_of-requires : goal.explained_of-requires
explained_of-requires c =
    let part = c.args.part.now in
    let view = c.args.view.now in
    let model = model_with part c.as_slice.result.now (cells_of_arrays c.as_slice-2.result.now) in
    let right =
    subst (λ (model : Model). All (IsRight model) view.parts)
    (λ i. model_with part (sym c.as_slice.ensures i) (cells_of_arrays (sym c.as_slice-2.ensures i))) c.requires.right in
    rw c.in-Some.is at c.part_with.ensures.right model (subst (λ (parts : List KeptPart). All (IsRight model) parts) (sym c.as_slice-3.ensures) right)

pub returns-in-Some : goal.returns-in-Some
returns-in-Some c = λ tables q kept.
    let part = c.args.part.now in
    let view = c.args.view.now in
    IfOk-weaker c.explained_of.result _ _
    (λ e h. h
    ∙ (λ i. explained_in (model_with part (c.as_slice.ensures i) (cells_of_arrays (c.as_slice-2.ensures i))) c.args.cell.now c.in-Some.kept.now.input)
    ∙ told_found tables q part view kept c.args.key.now c.args.cell.now c.partitions_ascend.ensures c.as_slice-3.result.now c.as_slice-3.ensures
    (option_copied c.part_with.result) c.part_with.ensures.found c.in-Some.kept.now (ap option_copied c.in-Some.is))
    c.explained_of.ensures

pub returns-in-None : goal.returns-in-None
returns-in-None c = λ tables q kept.
    told_missing tables q c.args.part.now c.args.view.now kept c.args.key.now c.args.cell.now c.partitions_ascend.ensures c.as_slice-3.result.now c.as_slice-3.ensures
    (option_copied c.part_with.result) c.part_with.ensures.found (ap option_copied c.in-None.is)
