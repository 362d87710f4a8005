use Rattle.std.proofs.Common.{◌≡◌, ◌<◌, ℕ, List, length, map, sym, subst}
use Rattle.std.specs.List.{All}
use Rattle.std.proofs.lemmas.Result.{on_ok_weaker}
use Rattle.mq_cells.specs.Stores.{CellInput, Results, slot_at}
use Rattle.mq_ir.specs.declared.query.Slot.{Slot}
use Rattle.mq_auto.specs.Walks.{AreFoundAt, AreSlotsOver, IsSlotOver, model_in}
use Rattle.mq_auto.proofs.WalkLemmas.{places_there}
use Rattle.mq_auto.proofs.walking.walk_round.Goals as goal

pub put_round-requires-clause-there : goal.put_round-requires-clause-there
put_round-requires-clause-there g c =
    let s = c.args.work.now.shape.now in
    let are : AreSlotsOver (model_in c.args.work.now) s (slot_at (g.C.Cells.input c.args.cells.now) (g.C.Cells.results c.args.cells.now)) c.args.round.now c.in-Some.found =
    rw c.in-Some.is at c.in_ok-found.ensures.exact in
    places_there (λ place. place < length s.assigned) c.args.round.now c.in-Some.found are.same c.requires.there

pub put_round-requires-clause-slots : goal.put_round-requires-clause-slots
put_round-requires-clause-slots g c =
    let model = model_in c.args.work.now in
    let s = c.args.work.now.shape.now in
    let found = c.in-Some.found in
    let same = c.in_ok-found.ensures in
    let are : AreSlotsOver model s (slot_at (g.C.Cells.input c.args.cells.now) (g.C.Cells.results c.args.cells.now)) c.args.round.now found = rw c.in-Some.is at same.exact in
    subst (λ (r : Results). All (IsSlotOver model s (slot_at (g.C.Cells.input c.slots.new.cells) r)) found) (sym same.same_results)
    (subst (λ (i : CellInput). All (IsSlotOver model s (slot_at i (g.C.Cells.results c.args.cells.now))) found) (sym same.same_input) are.each)

pub returns-in-Some-clause-found : goal.returns-in-Some-clause-found
returns-in-Some-clause-found g c =
    let model = model_in c.args.work.now in
    let s = c.args.work.now.shape.now in
    let found = c.in-Some.found in
    let same = c.in_ok-found.ensures in
    let given = g.C.Cells.input c.args.cells.now in
    let before = g.C.Cells.results c.args.cells.now in
    let after = g.C.Cells.results c.put_round.new.cells in
    let are : AreSlotsOver model s (slot_at given before) c.args.round.now found = rw c.in-Some.is at same.exact in
    let places = map (λ (f : ℕ × Slot). f.0) found in
    on_ok_weaker c.put_round.result
    (λ at. subst (λ (l : List ℕ). AreFoundAt model s given before after l) are.same
    (subst (λ (r : Results). AreFoundAt model s given r after places) same.same_results
    (subst (λ (i : CellInput). AreFoundAt model s i (g.C.Cells.results c.slots.new.cells) after places) same.same_input at))) c.put_round.ensures.found

pub returns-in-None-clause-found : goal.returns-in-None-clause-found
returns-in-None-clause-found g c =
    let model = model_in c.args.work.now in
    let s = c.args.work.now.shape.now in
    let same = c.in_ok-found.ensures in
    let after = g.C.Cells.results c.visit_round.new.cells in
    on_ok_weaker c.visit_round.result
    (λ at. subst (λ (r : Results). AreFoundAt model s (g.C.Cells.input c.args.cells.now) r after c.args.round.now) same.same_results
    (subst (λ (i : CellInput). AreFoundAt model s i (g.C.Cells.results c.slots.new.cells) after c.args.round.now) same.same_input at)) c.visit_round.ensures.found
