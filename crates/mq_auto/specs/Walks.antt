-- What stands in a store of cells while the values of assignments are found round by round.
use Rattle.std.specs.Prelude.{◌≡◌, ℕ, ◌-◌, true, List, Some, map, slice_get}
use Rattle.std.specs.List.{All, find}
use Rattle.mq_ir.specs.declared.query.CellName.{CellName}
use Rattle.mq_ir.specs.declared.query.Look.TheVariants.{Measure}
use Rattle.mq_ir.specs.declared.query.PartShape.{PartShape}
use Rattle.mq_ir.specs.declared.query.Rule.{Rule}
use Rattle.mq_ir.specs.declared.query.Slot.{Slot}
use Rattle.mq_ir.specs.declared.query.Slot.TheVariants.{Done}
use Rattle.mq_ir.specs.Automatic.{node_looks}
use Rattle.mq_ir.specs.Partitions.{Cells, Tuple, cell_at}
use Rattle.mq_ir.specs.Rounds.{levelled}
use Rattle.mq_ir.specs.Shape.{Assignment, assigns}
use Rattle.mq_ir.specs.Slots.{Slots, cell_slot}
use Rattle.mq_ir.specs.Unfolding.{Model, model_of}
use Rattle.mq_cells.specs.IndexedStores.{IndexedStore, slots_in, value_in}
use Rattle.mq_cells.specs.Stores.{CellInput, DiffersAt, Results, name_assigned, slot_at}
use Rattle.mq_auto_shape.specs.Found.{IsRuled, place_comes_in}
use Rattle.mq_refs.specs.Orders.{IsOrderOf}
use Rattle.mq_auto.specs.declared.work.Work.{Work}
use Rattle.mq_auto.specs.Meaning.{result_at}

-- the model at work
abbrev pub model_in : Work → Model
model_in work = model_of work.model.now

-- no measure of a cell is assigned twice: the assignment that is found first is this one
abbrev pub AreOwn : PartShape → Type 0
AreOwn shape = All (λ a. find (assigns a.1 a.0) shape.assigned ≡ Some a) shape.assigned

-- each assignment is by a rule of the model
abbrev pub AreRuled : Model → PartShape → Type 0
AreRuled model shape = All (IsRuled model) shape.assigned

-- its keys are those of the shape, and what is said of the references holds
pub record IsAtWork (work : Work) : Type 0 where
  pub base : work.keys.base.now ≡ work.shape.now.base
  pub cells : work.keys.cells.now ≡ work.shape.now.cells
  pub refs : IsOrderOf work.refs work.model.now

-- at the measure of an assignment stands what its rule makes of the cell over what stood before, and nothing else changed
abbrev pub IsPut : Model → PartShape → CellInput → Results → Results → Assignment → Rule → Type 0
IsPut model shape given before after a rule =
    DiffersAt before after (name_assigned a) (Some (cell_slot model shape 0 rule a.0 (slot_at given before)))

-- the assignment at a place is of this cell, by this rule
abbrev pub IsAssignedAt : Model → PartShape → ℕ → Tuple → Rule → Type 0
IsAssignedAt model shape place key rule =
    (a : Assignment) → slice_get shape.assigned place ≡ Some a → (a.0 ≡ key) × (slice_get model.part.rules (a.2 - 1) ≡ Some rule)

-- this stands now at the measure of the assignment at a place, and nothing else changed
abbrev pub IsPutAt : PartShape → Results → Results → ℕ → Slot → Type 0
IsPutAt shape before after place slot =
    (a : Assignment) → slice_get shape.assigned place ≡ Some a → DiffersAt before after (name_assigned a) (Some slot)

-- each measure of a store has a value
abbrev pub LendsAll : IndexedStore → Type 0
LendsAll store = (c : CellName) → slots_in store c ≡ Done (value_in store c)

-- a place with what the rule of the assignment there makes of its cell over these slots
abbrev pub IsSlotOver : Model → PartShape → Slots → ℕ × Slot → Type 0
IsSlotOver model shape slots found =
    (a : Assignment) (rule : Rule) → slice_get shape.assigned found.0 ≡ Some a → slice_get model.part.rules (a.2 - 1) ≡ Some rule
    → found.1 ≡ cell_slot model shape 0 rule a.0 slots

-- these places, in order, each with that
pub record AreSlotsOver (model : Model) (shape : PartShape) (slots : Slots) (places : List ℕ) (found : List (ℕ × Slot)) : Type 0 where
  pub same : map (λ f. f.0) found ≡ places
  pub each : All (IsSlotOver model shape slots) found

-- at a measure stands what is to stand there
abbrev pub IsRight : Model → PartShape → Cells → Results → CellName → Type 0
IsRight model shape input results c = results c ≡ result_at model shape input c

-- .. at each one that is levelled within n rounds
abbrev pub AreRightWithin : Model → PartShape → Cells → ℕ → Results → Type 0
AreRightWithin model shape input n results =
    (c : CellName) → levelled (node_looks model shape) n (Measure c) ≡ true → IsRight model shape input results c

-- .. at that of the assignment at this place
abbrev pub IsRightAt : Model → PartShape → Cells → Results → ℕ → Type 0
IsRightAt model shape input results place =
    (a : Assignment) → slice_get shape.assigned place ≡ Some a → IsRight model shape input results (name_assigned a)

-- what was right stays so
abbrev pub StayRight : Model → PartShape → Cells → Results → Results → Type 0
StayRight model shape input before after = (c : CellName) → IsRight model shape input before c → IsRight model shape input after c

-- Where n rounds are done, and an assignment comes in the next one: its slot is found, and what was right stays so.
abbrev pub IsFoundAt : Model → PartShape → CellInput → Results → Results → ℕ → Type 0
IsFoundAt model shape given before after place =
    (input : Cells) (n : ℕ) → given ≡ cell_at input → place_comes_in model shape n place ≡ true → AreRightWithin model shape input n before
    → StayRight model shape input before after × IsRightAt model shape input after place

-- .. the same of some that come in it
abbrev pub AreFoundAt : Model → PartShape → CellInput → Results → Results → List ℕ → Type 0
AreFoundAt model shape given before after places =
    (input : Cells) (n : ℕ) → given ≡ cell_at input → All (λ place. place_comes_in model shape n place ≡ true) places
    → AreRightWithin model shape input n before
    → StayRight model shape input before after × All (IsRightAt model shape input after) places
