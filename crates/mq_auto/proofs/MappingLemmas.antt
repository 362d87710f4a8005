-- What threads find of a list, in order, is what one thread finds.
use Rattle.std.proofs.Common.{◌≡◌, ℕ, ◌-◌, List, [], ◌∷◌, map, Some, slice_get, refl, sym, ap, ap₂, subst, ◌∙◌}
use Rattle.std.specs.Prelude.{IfOk, MatchResult, Contains, Result, Ok, Err}
use Rattle.std.specs.List.{AllZip}
use Rattle.std.proofs.lemmas.List.Elements.{All-cons, All-nil}
use Rattle.mq_ir.specs.declared.query.PartShape.{PartShape}
use Rattle.mq_ir.specs.declared.query.Rule.{Rule}
use Rattle.mq_ir.specs.declared.query.Slot.{Slot}
use Rattle.mq_ir.specs.Keys.{Tuple}
use Rattle.mq_ir.specs.Shape.{Assignment}
use Rattle.mq_ir.specs.Slots.{Slots, cell_slot}
use Rattle.mq_ir.specs.Unfolding.{Model}
use Rattle.mq_cells.specs.IndexedStores.{IndexedStore, slots_in}
use Rattle.mq_auto.specs.declared.work.Work.{Work}
use Rattle.mq_auto.specs.Mapped.{IsFoundIn}
use Rattle.mq_auto.specs.Walks.{AreSlotsOver, IsAssignedAt, IsSlotOver, model_in}

module _ {X Y : Type 0} (E : Type 0) (R : X → Y → Type 0) where
  abbrev pub IsAnswer : X → Result Y E → Type 0
  IsAnswer x r = IfOk r (R x)

  oks : (xs : List X) (ys : List Y) → AllZip IsAnswer xs (map Ok ys) → AllZip R xs ys
  oks [] [] h = tt
  oks [] (y ∷ ys) h = h
  oks (x ∷ xs) [] h = h
  oks (x ∷ xs) (y ∷ ys) h = (h.0, oks xs ys h.1)

  -- the answers that were collected, where each is one
  pub collected : {V : Type 0} (items : V → List Y) (xs : List X) (rs : List (Result Y E)) (r : Result V E) → AllZip IsAnswer xs rs
      → MatchResult r (λ v. (ys : List Y) × (rs ≡ map Ok ys) × (items v ≡ ys)) (λ e. Contains rs (Err e)) → IfOk r (λ v. AllZip R xs (items v))
  collected items xs rs (Ok v) each h = subst (AllZip R xs) (sym h.2) (oks xs h.0 (subst (AllZip IsAnswer xs) h.1 each))
  collected items xs rs (Err e) each h = tt

-- the assignment that stands at a place, with its rule, is the one of these
pub assigned_is : (model : Model) (shape : PartShape) (place : ℕ) (a : Assignment) (rule : Rule) → slice_get shape.assigned place ≡ Some a
    → slice_get model.part.rules (a.2 - 1) ≡ Some rule → IsAssignedAt model shape place a.0 rule
assigned_is model shape place a rule at is b other =
    let same : a ≡ b = (let g : Some a ≡ Some b = sym at ∙ other in cc) in
    (ap (λ (x : Assignment). x.0) (sym same), ap (λ (x : Assignment). slice_get model.part.rules (x.2 - 1)) (sym same) ∙ is)

-- what a rule makes of the cell of its assignment, behind its place
pub slot_over_at : (model : Model) (shape : PartShape) (slots : Slots) (place : ℕ) (key : Tuple) (rule : Rule) (slot : Slot) → IsAssignedAt model shape place key rule
    → slot ≡ cell_slot model shape 0 rule key slots → IsSlotOver model shape slots (place, slot)
slot_over_at model shape slots place key rule slot of is a other at by =
    let here = of a at in
    let same : rule ≡ other = (let g : Some rule ≡ Some other = sym here.1 ∙ by in cc) in
    is ∙ (λ i. cell_slot model shape 0 (same i) (sym here.0 i) slots)

-- what is found at each of these places
pub found_all : (work : Work) (store : IndexedStore) (places : List ℕ) (found : List (ℕ × Slot)) → AllZip (IsFoundIn work store) places found
    → AreSlotsOver (model_in work) work.shape.now (slots_in store) places found
found_all work store [] [] h = record { same = refl; each = All-nil (IsSlotOver (model_in work) work.shape.now (slots_in store)) }
found_all work store [] (f ∷ found) h = absurd h
found_all work store (place ∷ places) [] h = absurd h
found_all work store (place ∷ places) (f ∷ found) h =
    let rest = found_all work store places found h.1 in
    record {
      same = ap₂ (λ (k : ℕ) (l : List ℕ). k ∷ l) h.0.same rest.same;
      each = All-cons (IsSlotOver (model_in work) work.shape.now (slots_in store)) f found h.0.slot rest.each;
    }
