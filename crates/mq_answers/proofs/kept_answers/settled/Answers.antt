use Rattle.std.proofs.Common.{ap, sym, ◌∙◌, subst}
use Rattle.std.specs.List.{All}
use Rattle.std.proofs.lemmas.Result.{IfOk-weaker}
use Rattle.mq_ir.specs.Unfolding.{model_of}
use Rattle.mq_kept.specs.Kept.{IsRight, inputs_of}
use Rattle.mq_answers.proofs.CrossLemmas.{handed, kept_stretch_send}
use Rattle.mq_answers.proofs.KeptLemmas.{all_right, same_parts}
use Rattle.mq_answers.proofs.kept_answers.settled.Goals as goal

pub run_pieces-requires-send-P : goal.run_pieces-requires-send-P
run_pieces-requires-send-P g c κs within = search (kept_stretch_send, handed) depth 30 fits 20000

pub returns-clause-right : goal.returns-clause-right
returns-clause-right g c =
    let right = IsRight (model_of c.args.m.now) in
    IfOk-weaker c.parts_of.result _ _
    (λ after h. subst (All right) (sym h) (all_right c.args.m.now c.in_ok-stretches.stretches.items c.in_ok-done.done.items c.in_ok-stretches.ensures.settle c.in_ok-done.ensures.ran))
    c.parts_of.ensures

pub returns-clause-same : goal.returns-clause-same
returns-clause-same g c =
    IfOk-weaker c.parts_of.result _ _
    (λ after h. ap inputs_of h ∙ same_parts c.in_ok-stretches.stretches.items c.in_ok-done.done.items c.in_ok-done.ensures.ran
    ∙ ap inputs_of c.in_ok-stretches.ensures.same)
    c.parts_of.ensures
