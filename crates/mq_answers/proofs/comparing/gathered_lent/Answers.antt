use Rattle.std.proofs.Common.{[], Err, ap, sym, subst, ◌∙◌}
use Rattle.std.proofs.Math.Seq.{map-set_same}
use Rattle.std.proofs.lemmas.List.Elements.{All-set}
use Rattle.std.proofs.lemmas.Result.{err_from_is_err_and}
use Rattle.mq_values.specs.Answers.{Gives}
use Rattle.mq_ir.specs.Answer.{Gathered, partition_step}
use Rattle.mq_ir.specs.Unfolding.{model_of}
use Rattle.mq_kept.specs.declared.kept_view.KeptPart.{KeptPart}
use Rattle.mq_kept.specs.Kept.{IsRight, inputs_of}
use Rattle.mq_answers.proofs.KeptLemmas.{input_at, is_within}
use Rattle.mq_answers.proofs.TurnLemmas.{turn_exit, turn_next}
use Rattle.mq_answers.proofs.comparing.gathered_lent.Goals as goal

pub returns-in_err-gathered : goal.returns-in_err-gathered
returns-in_err-gathered c =
    let parts = c.loop-part.parts in
    let inputs = inputs_of c.args.parts.now in
    let i = c.loop-part.part-index in
    let same = c.loop-part.invariant.same in
    let p = err_from_is_err_and c.from_residual.result c.from_residual.ensures.1 in
    let step = partition_step (model_of c.args.m.now) in
    rw (p.1, p.2) (turn_exit step (0, []) inputs i c.loop-part.gathered c.part-item.result.input c.in_err-gathered.field-0.0
    (is_within c.args.parts.now i c.loop-part-test.true) (input_at parts inputs i c.part-item.result same c.part-item.is) c.loop-part.invariant.gathered
    (subst (λ (part : KeptPart). Gives {T = Gathered} (Err c.in_err-gathered.field-0.0) (step part.input c.loop-part.gathered)) (sym c.part-item.is)
    c.in_err-gathered.ensures.exact))

pub loop-part-preserved : goal.loop-part-preserved
loop-part-preserved c =
    let parts = c.loop-part.parts in
    let inputs = inputs_of c.args.parts.now in
    let i = c.loop-part.part-index in
    let same = c.loop-part.invariant.same in
    let step = partition_step (model_of c.args.m.now) in
    record {
      right = All-set (IsRight (model_of c.args.m.now)) parts i c.with_lent.new.part c.with_lent.ensures.right c.loop-part.invariant.right;
      same = map-set_same (λ (part : KeptPart). part.input) parts i c.with_lent.new.part c.part-item.result c.with_lent.ensures.same_input ∙ same;
      gathered = turn_next step (0, []) inputs i c.loop-part.gathered c.part-item.result.input c.in_ok-gathered.gathered
          (is_within c.args.parts.now i c.loop-part-test.true) (input_at parts inputs i c.part-item.result same c.part-item.is)
          (ap (λ (part : KeptPart). step part.input c.loop-part.gathered) c.part-item.is ∙ c.in_ok-gathered.ensures.exact) c.loop-part.invariant.gathered;
    }
