use Rattle.std.proofs.Common.{◌≡◌, ◌<◌, ℕ, List, length, map, map-id, refl, sym, subst, ◌∙◌, rules}
use Rattle.std.proofs.lemmas.Iterator.Adapters.{YieldsList-from_vec}
use Rattle.std.proofs.lemmas.Iterator.Consumers.{YieldsList-end, YieldsList-turn}
use Rattle.std.proofs.lemmas.List.Elements.{All-get_or}
use Rattle.mq_ir.specs.declared.query.Slot.{Slot}
use Rattle.mq_cells.specs.Stores.{slot_at}
use Rattle.mq_auto.specs.Walks.{AreFoundAt, IsSlotOver, model_in}
use Rattle.mq_auto.proofs.WalkLemmas.{put_next, put_over, put_start}
use Rattle.mq_auto.proofs.walking.put_round.Goals as goal

pub slots-init : goal.slots-init
slots-init g c = record {
  put = put_start (model_in c.args.work.now) c.args.work.now.shape.now (g.C.Cells.input c.args.cells.now) (g.C.Cells.results c.args.cells.now);
  same = refl;
}

pub put_at-requires : goal.put_at-requires
put_at-requires g c =
    let all = c.args.found in
    let gone = c.slots.yielded in
    let P = λ (f : ℕ × Slot). f.0 < length c.args.work.now.shape.now.assigned in
    let road = YieldsList-from_vec all (search rules) (search rules) in
    let turn = YieldsList-turn road gone c.slots.place-iterator c.slots.yielded_by c.next.result c.next.new.self (c.in-Some.place, c.in-Some.slot) c.in-Some.is c.next.ensures.steps in
    subst P (sym turn.1) (All-get_or P all (length gone) (c.in-Some.place, c.in-Some.slot) turn.0 c.requires.there)

pub slots-preserved : goal.slots-preserved
slots-preserved g c =
    let model = model_in c.args.work.now in
    let s = c.args.work.now.shape.now in
    let given = g.C.Cells.input c.args.cells.now in
    let before = g.C.Cells.results c.args.cells.now in
    let mid = g.C.Cells.results c.slots.cells in
    let after = g.C.Cells.results c.put_at.new.cells in
    let all = c.args.found in
    let gone = c.slots.yielded in
    let f : ℕ × Slot = (c.in-Some.place, c.in-Some.slot) in
    let There = λ (f : ℕ × Slot). f.0 < length s.assigned in
    let Over = IsSlotOver model s (slot_at given before) in
    let road = YieldsList-from_vec all (search rules) (search rules) in
    let turn = YieldsList-turn road gone c.slots.place-iterator c.slots.yielded_by c.next.result c.next.new.self f c.in-Some.is c.next.ensures.steps in
    let there = subst There (sym turn.1) (All-get_or There all (length gone) f turn.0 c.requires.there) in
    let over = subst Over (sym turn.1) (All-get_or Over all (length gone) f turn.0 c.requires.slots) in
    record {
      put =
          put_next model s given before mid after gone f
          (put_over model s c.steps_read_their_looks.ensures c.requires.own given before mid after c.in-Some.place c.in-Some.slot there over c.in_ok-put_at.ensures.put)
          c.slots.invariant.put;
      same = c.in_ok-put_at.ensures.same_input ∙ c.slots.invariant.same;
    }

pub returns-clause-found : goal.returns-clause-found
returns-clause-found g c =
    let given = g.C.Cells.input c.args.cells.now in
    let before = g.C.Cells.results c.args.cells.now in
    let after = g.C.Cells.results c.slots.cells in
    let road = YieldsList-from_vec c.args.found (search rules) (search rules) in
    let end = YieldsList-end road c.slots.yielded c.slots.place-iterator c.slots.yielded_by c.next.result c.next.new.self c.in-None.is c.next.ensures.steps in
    subst (λ (l : List (ℕ × Slot)). AreFoundAt (model_in c.args.work.now) c.args.work.now.shape.now given before after (map (λ (f : ℕ × Slot). f.0) l))
    (sym (map-id c.slots.yielded) ∙ end.0) c.slots.invariant.put
