use Rattle.std.proofs.Common.{◌+◌, List, drop, length, subst, sym, rules}
use Rattle.std.specs.List.{All}
use Rattle.std.proofs.lemmas.Iterator.Adapters.{YieldsList-from_vec}
use Rattle.std.proofs.lemmas.Iterator.Consumers.{YieldsList-so_far, YieldsList-turn}
use Rattle.mq_ir.specs.declared.query.PartInput.{PartInput}
use Rattle.mq_ir.specs.Ready.{IsReady}
use Rattle.mq_answers.specs.declared.stretches.Stretch.{Stretch}
use Rattle.mq_answers.specs.Stretches.{CanRun}
use Rattle.mq_answers.specs.Cuts.{joined}
use Rattle.mq_answers.proofs.CutLemmas.{made_next, of_part}
use Rattle.mq_answers.proofs.TakenLemmas.{taken_is}
use Rattle.mq_answers.proofs.stretches.stretches_of.Goals as goal

pub new-requires : goal.new-requires
new-requires g c =
    let all = c.in_ok-parts.parts in
    let gone = c.loop-part.yielded in
    let road = YieldsList-from_vec {s = c.into_iter-part-iterator.result} all (search rules) (search rules) in
    let front = YieldsList-so_far road gone c.loop-part.part-iterator c.loop-part.yielded_by in
    let turn = YieldsList-turn road gone c.loop-part.part-iterator c.loop-part.yielded_by c.next.result c.next.new.self c.in-Some.part c.in-Some.is c.next.ensures.steps in
    let whole = taken_is all gone c.in-Some.part front turn in
    let P = IsReady c.args.m.now.part.now in
    of_part P gone c.in-Some.part (drop (length gone + 1) all)
    (subst (λ (parts : List (List PartInput)). All P (joined parts)) whole (subst (All P) (sym c.in_ok-parts.ensures.same) c.requires))

pub loop-part-preserved : goal.loop-part-preserved
loop-part-preserved g c =
    made_next (λ (s : Stretch _). s.inputs) (CanRun c.args.m.now) c.loop-part.yielded c.loop-part.stretches c.in-Some.part c.new.result c.push.new.self c.in_ok-push.ensures.ok
    c.new.ensures.inputs c.new.ensures.run c.loop-part.invariant
