use Rattle.std.proofs.Common.{[], sym, subst, ◌∙◌, rules}
use Rattle.std.specs.List.{All}
use Rattle.std.proofs.lemmas.List.Elements.{All-drop}
use Rattle.std.proofs.lemmas.Result.{err_from_is_err_and}
use Rattle.mq_ir.specs.Answer.{partition_step}
use Rattle.mq_ir.specs.Ready.{IsReady}
use Rattle.mq_ir.specs.Unfolding.{model_of}
use Rattle.mq_answers.proofs.StretchLemmas.{cut_is, left_exit, left_next}
use Rattle.mq_answers.proofs.models.gathered_of.Goals as goal

pub returns-in_err-gathered : goal.returns-in_err-gathered
returns-in_err-gathered g c =
    let left = c.waves.left.items in
    let front = c.from_vec.result in
    let rest = c.in_ok-rest.rest.items in
    let p = err_from_is_err_and c.from_residual-in_err-gathered.result c.from_residual-in_err-gathered.ensures.1 in
    rw (p.1, p.2) (left_exit (partition_step (model_of c.args.m.now)) (0, []) c.args.inputs left c.waves.gathered front rest c.in_err-gathered.field-0.0
    (cut_is c.wave_length.result left front rest (c.from_vec.ensures ∙ c.in_ok-rest.ensures.items) c.in_ok-rest.ensures.tail) c.in_err-gathered.ensures c.waves.invariant.2)

pub waves-preserved : goal.waves-preserved
waves-preserved g c =
    let left = c.waves.left.items in
    let front = c.from_vec.result in
    let rest = c.in_ok-rest.rest.items in
    let ready = IsReady c.args.m.now.part.now in (
      search rules,
      subst (All ready) (sym c.in_ok-rest.ensures.tail) (All-drop ready c.wave_length.result left c.waves.invariant.1),
      left_next (partition_step (model_of c.args.m.now)) (0, []) c.args.inputs left c.waves.gathered front rest c.in_ok-gathered.gathered
          (cut_is c.wave_length.result left front rest (c.from_vec.ensures ∙ c.in_ok-rest.ensures.items) c.in_ok-rest.ensures.tail) c.in_ok-gathered.ensures c.waves.invariant.2,
    )
