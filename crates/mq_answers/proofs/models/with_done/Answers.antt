use Rattle.std.proofs.Common.{◌+◌, List, drop, length, Err, sym, subst, rules}
use Rattle.std.proofs.lemmas.Iterator.Adapters.{YieldsList-from_vec}
use Rattle.std.proofs.lemmas.Iterator.Consumers.{YieldsList-so_far, YieldsList-turn}
use Rattle.std.proofs.lemmas.Result.{err_from_is_err_and}
use Rattle.mq_values.specs.Answers.{Gives}
use Rattle.mq_ir.specs.Answer.{Gathered}
use Rattle.mq_ir.specs.Results.{each_in_turn}
use Rattle.mq_ir.specs.Unfolding.{model_of}
use Rattle.mq_answers.specs.declared.stretches.Stretch.{Stretch}
use Rattle.mq_answers.specs.Stretches.{with_stretch}
use Rattle.mq_answers.proofs.StretchLemmas.{handed_exit, handed_next}
use Rattle.mq_answers.proofs.TakenLemmas.{taken_is}
use Rattle.mq_answers.proofs.models.with_done.Goals as goal

pub returns-in_err-gathered : goal.returns-in_err-gathered
returns-in_err-gathered g c =
    let put = with_stretch (model_of c.args.m.now) in
    let all = c.args.done.items in
    let gone = c.loop-stretch.yielded in
    let road = YieldsList-from_vec {s = c.into_iter-stretch-iterator.result} all (search rules) (search rules) in
    let front = YieldsList-so_far road gone c.loop-stretch.stretch-iterator c.loop-stretch.yielded_by in
    let turn = YieldsList-turn road gone c.loop-stretch.stretch-iterator c.loop-stretch.yielded_by c.next.result c.next.new.self c.in-Some.stretch c.in-Some.is c.next.ensures.steps in
    let whole = taken_is all gone c.in-Some.stretch front turn in
    let p = err_from_is_err_and c.from_residual.result c.from_residual.ensures.1 in
    rw (p.1, p.2) (subst (λ (l : List (Stretch _)). Gives {T = Gathered} (Err c.in_err-gathered.field-0.0) (each_in_turn put l c.args.gathered)) (sym whole)
    (handed_exit put c.args.gathered gone c.loop-stretch.gathered c.in-Some.stretch (drop (length gone + 1) all) c.in_err-gathered.field-0.0 c.loop-stretch.invariant c.in_err-gathered.ensures))

pub loop-stretch-preserved : goal.loop-stretch-preserved
loop-stretch-preserved g c =
    handed_next (with_stretch (model_of c.args.m.now)) c.args.gathered c.loop-stretch.yielded c.loop-stretch.gathered c.in-Some.stretch c.in_ok-gathered.gathered
    c.in_ok-gathered.ensures c.loop-stretch.invariant
