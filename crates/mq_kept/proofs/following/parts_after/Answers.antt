use Rattle.std.proofs.Common.{◌+◌, ◌∷◌, ◌++◌, [], drop, length, subst, sym, ap, ◌∙◌, rules}
use Rattle.std.specs.List.{All}
use Rattle.std.proofs.lemmas.List.{map-append}
use Rattle.std.proofs.lemmas.List.Elements.{All-nil}
use Rattle.std.proofs.lemmas.Iterator.Adapters.{YieldsList-from_vec}
use Rattle.std.proofs.lemmas.Iterator.Consumers.{YieldsList-so_far, YieldsList-turn}
use Rattle.mq_ir.specs.Ready.{IsReady}
use Rattle.mq_ir.specs.Unfolding.{model_of}
use Rattle.mq_kept.specs.declared.kept_view.KeptPart.{KeptPart}
use Rattle.mq_kept.specs.Kept.{IsRight, inputs_of}
use Rattle.mq_kept.proofs.FollowLemmas.{all_further, holds_between, taken_is}
use Rattle.mq_kept.proofs.following.parts_after.Goals as goal

pub part_after-requires-clause-ready : goal.part_after-requires-clause-ready
part_after-requires-clause-ready c =
    let all = c.args.inputs in
    let gone = c.loop-input.yielded in
    let road = YieldsList-from_vec {s = c.into_iter-input-iterator.result} all (search rules) (search rules) in
    let front = YieldsList-so_far road gone c.loop-input.input-iterator c.loop-input.yielded_by in
    let turn = YieldsList-turn road gone c.loop-input.input-iterator c.loop-input.yielded_by c.next.result c.next.new.self c.in-Some.input c.in-Some.is c.next.ensures.steps in
    let whole = taken_is all gone c.in-Some.input front turn in
    holds_between (IsReady c.args.m.now.part.now) gone c.in-Some.input (drop (length gone + 1) all)
    (subst (All (IsReady c.args.m.now.part.now)) whole c.requires.ready)

pub part_after-requires-clause-right : goal.part_after-requires-clause-right
part_after-requires-clause-right c = c.loop-input.invariant.1.1

pub loop-input-preserved : goal.loop-input-preserved
loop-input-preserved c =
    let model = model_of c.args.m.now in
    let parts = c.loop-input.parts in
    let part = c.in_ok-part.part in (
      ap inputs_of c.in_ok-push.ensures.ok
          ∙ map-append (λ (p : KeptPart). p.input) parts (part ∷ [])
          ∙ (λ i. c.loop-input.invariant.0 i ++ c.in_ok-part.ensures.input i ∷ []),
      (
        subst (All (IsRight model)) (sym c.in_ok-push.ensures.ok) (all_further (IsRight model) parts part c.loop-input.invariant.1.0 c.in_ok-part.ensures.right),
        c.in_ok-part.ensures.left,
      ),
    )

pub loop-input-init : goal.loop-input-init
loop-input-init c =
    let model = model_of c.args.m.now in (
      ap inputs_of c.with_room-parts.ensures,
      (subst (All (IsRight model)) (sym c.with_room-parts.ensures) (All-nil (IsRight model)), c.reversed-left.ensures model c.requires.right),
    )
