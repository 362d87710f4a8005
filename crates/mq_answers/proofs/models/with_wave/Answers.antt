use Rattle.std.proofs.Common.{ap, sym, ◌∙◌, subst}
use Rattle.std.specs.List.{All}
use Rattle.mq_ir.specs.Unfolding.{model_of}
use Rattle.mq_values.specs.Answers.{Gives}
use Rattle.mq_answers.specs.Stretches.{CanRun, inputs_in}
use Rattle.mq_answers.proofs.CrossLemmas.{handed, stretch_send}
use Rattle.mq_answers.proofs.StretchLemmas.{all_run, wave_is}
use Rattle.mq_answers.proofs.models.with_wave.Goals as goal

pub run_pieces-requires-send-P : goal.run_pieces-requires-send-P
run_pieces-requires-send-P g c κs within = search (stretch_send, handed) depth 30 fits 20000

pub with_done-requires : goal.with_done-requires
with_done-requires g c =
    let m = c.args.m.now in
    all_run m c.into_vec-stretches.result.items c.in_ok-done.done.items (subst (All (CanRun m)) (sym c.into_vec-stretches.ensures) c.in_ok-stretches_of.ensures.run)
    c.in_ok-done.ensures.ran

pub returns : goal.returns
returns g c =
    subst (Gives c.with_done.result)
    (wave_is (model_of c.args.m.now) c.args.inputs c.into_vec-stretches.result.items c.in_ok-done.done.items c.args.gathered c.in_ok-done.ensures.ran
    (ap inputs_in c.into_vec-stretches.ensures ∙ c.in_ok-stretches_of.ensures.same))
    c.with_done.ensures
