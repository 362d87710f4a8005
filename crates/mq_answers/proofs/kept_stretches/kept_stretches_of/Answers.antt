use Rattle.std.proofs.Common.{◌+◌, List, drop, length, subst, sym, rules}
use Rattle.std.specs.List.{All}
use Rattle.std.proofs.lemmas.Iterator.Adapters.{YieldsList-from_vec}
use Rattle.std.proofs.lemmas.Iterator.Consumers.{YieldsList-so_far, YieldsList-turn}
use Rattle.mq_ir.specs.Unfolding.{model_of}
use Rattle.mq_kept.specs.declared.kept_view.KeptPart.{KeptPart}
use Rattle.mq_kept.specs.Kept.{IsRight}
use Rattle.mq_answers.specs.declared.kept_stretches.KeptStretch.{KeptStretch}
use Rattle.mq_answers.specs.KeptStretches.{MaySettle}
use Rattle.mq_answers.specs.Cuts.{joined}
use Rattle.mq_answers.proofs.CutLemmas.{made_next, of_part}
use Rattle.mq_answers.proofs.TakenLemmas.{taken_is}
use Rattle.mq_answers.proofs.kept_stretches.kept_stretches_of.Goals as goal

pub new-requires : goal.new-requires
new-requires g c =
    let all = c.in_ok-cuts.cuts in
    let gone = c.loop-part.yielded in
    let road = YieldsList-from_vec {s = c.into_iter-part-iterator.result} all (search rules) (search rules) in
    let front = YieldsList-so_far road gone c.loop-part.part-iterator c.loop-part.yielded_by in
    let turn = YieldsList-turn road gone c.loop-part.part-iterator c.loop-part.yielded_by c.next.result c.next.new.self c.in-Some.part c.in-Some.is c.next.ensures.steps in
    let whole = taken_is all gone c.in-Some.part front turn in
    let P = IsRight (model_of c.args.m.now) in
    of_part P gone c.in-Some.part (drop (length gone + 1) all)
    (subst (λ (parts : List (List KeptPart)). All P (joined parts)) whole (subst (All P) (sym c.in_ok-cuts.ensures.same) c.requires))

pub loop-part-preserved : goal.loop-part-preserved
loop-part-preserved g c =
    made_next (λ (s : KeptStretch _). s.parts.items) (MaySettle c.args.m.now) c.loop-part.yielded c.loop-part.stretches.items c.in-Some.part c.new.result c.push.new.self.items c.in_ok-push.ensures.items
    c.new.ensures.parts c.new.ensures.settle c.loop-part.invariant
