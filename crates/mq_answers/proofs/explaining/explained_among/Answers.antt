use Rattle.std.proofs.Common.{ap, sym, ◌∙◌}
use Rattle.std.specs.List.{find}
use Rattle.std.specs.Option.{option_copied, option_map_or}
use Rattle.std.proofs.lemmas.Result.{IfOk-weaker}
use Rattle.mq_ir.specs.declared.query.Explained.TheVariants.{NoPartition}
use Rattle.mq_ir.specs.declared.query.PartInput.{PartInput}
use Rattle.mq_ir.specs.Explaining.{explained_in}
use Rattle.mq_ir.specs.Keys.{is_same}
use Rattle.mq_ir.specs.Ready.{IsReady}
use Rattle.mq_ir.specs.Unfolding.{model_of}
use Rattle.mq_answers.specs.FoundLaws.{all_found}
use Rattle.mq_answers.proofs.explaining.explained_among.Goals as goal

pub explained_in-requires : goal.explained_in-requires
explained_in-requires c =
    let here = λ (p : PartInput). is_same c.args.key.now p.key in
    all_found here (IsReady c.args.m.now.part.now) c.args.inputs.now c.in-Some.p.now c.requires
    (ap (find here) (sym c.as_slice.ensures) ∙ sym c.partition_at.ensures ∙ ap option_copied c.in-Some.is)

pub returns-in-Some : goal.returns-in-Some
returns-in-Some c =
    let here = λ (p : PartInput). is_same c.args.key.now p.key in
    let model = model_of c.args.m.now in
    IfOk-weaker c.explained_in.result _ _
    (λ e h. h
    ∙ sym (ap (λ o. option_map_or (explained_in model c.args.cell.now) o NoPartition)
    (ap (find here) (sym c.as_slice.ensures) ∙ sym c.partition_at.ensures ∙ ap option_copied c.in-Some.is)))
    c.explained_in.ensures
