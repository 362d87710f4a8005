-- The values of a cell, one measure after another, and the cells at which nothing stands.
use Rattle.std.proofs.Common.{◌≡◌, ℕ, suc, ◌+◌, ◌-◌, Bool, true, false, ◌||◌, List, [], ◌∷◌, ◌++◌, length, map, Option, Some, None, refl, sym, ap, ◌∙◌, arith}
use Rattle.std.specs.List.{find, list_any, range_with_len}
use Rattle.std.specs.Option.{option_and_then, option_map, option_map_or}
use Rattle.std.specs.Prelude.{slice_index_or, slice_get, unwrap_or}
use Rattle.std.proofs.lemmas.List.FromFn.{map-range_with_len_more}
use Rattle.mq_values.specs.declared.value.Value.{Value}
use Rattle.mq_values.specs.declared.value.Value.TheVariants.{Null}
use Rattle.mq_ir.specs.declared.query.PartShape.{PartShape}
use Rattle.mq_ir.specs.declared.query.Rule.{Rule}
use Rattle.mq_ir.specs.declared.query.Slot.TheVariants.{Done}
use Rattle.mq_ir.specs.Automatic.{slots_in}
use Rattle.mq_ir.specs.Keys.{Tuple, is_same}
use Rattle.mq_ir.specs.Looks.{looks_of}
use Rattle.mq_ir.specs.Partitions.{Cells}
use Rattle.mq_ir.specs.Shape.{Assignment, assigns}
use Rattle.mq_ir.specs.Slots.{done_value, site_in}
use Rattle.mq_ir.specs.Unfolding.{Model}
use Rattle.mq_cells.specs.Stores.{CellInput, Results, cell_name, slot_at}
use Rattle.mq_auto.specs.Findings.{StandWhereAssigned, StandsNowhere}
use Rattle.mq_auto.specs.Meaning.{HoldsValues}

none_more : (n : ℕ) → 0 + n ≡ n
none_more n = omega arith

pub value_next : {X : Type 0} (f : ℕ → X) (values after : List X) (m : ℕ) (v : X) → values ≡ map f (range_with_len 0 m) → after ≡ values ++ v ∷ [] → v ≡ f m → after ≡ map f (range_with_len 0 (m + 1))
value_next f values after m v h a e = a ∙ (λ i. h i ++ e i ∷ []) ∙ sym (map-range_with_len_more f 0 m m (none_more m))

-- a tuple, value by value, by the numbers of their places
listed : (g : ℕ → Value) (xs : Tuple) (n : ℕ) → ((i : ℕ) → g (n + i) ≡ slice_index_or xs i Null) → xs ≡ map g (range_with_len n (length xs))
listed g [] n h = refl
listed g (x ∷ xs) n h =
    let first : n + 0 ≡ n = omega arith in
    let head : x ≡ g n = sym (h 0) ∙ ap g first in
    let tail = listed g xs (n + 1) (λ i. let next : (n + 1) + i ≡ n + suc i = omega arith in ap g next ∙ h (suc i)) in
    λ i. head i ∷ tail i

-- where no result stands, the measures of the input are what stands
pub given_values : (input : CellInput) (results : Results) (key measures : Tuple) (count : ℕ) → Some measures ≡ input key → length measures ≡ count → StandsNowhere results key
    → measures ≡ map (λ n. done_value (slot_at input results (cell_name key n))) (range_with_len 0 count)
given_values input results key measures count there long none =
    listed value measures 0 (λ m. let same : 0 + m ≡ m = omega arith in ap value same ∙ at m) ∙ ap (λ n. map value (range_with_len 0 n)) long
  where
    value : ℕ → Value
    value m = done_value (unwrap_or (results (cell_name key m)) (Done (option_map_or (λ (values : Tuple). slice_index_or values m Null) (input key) Null)))

    at : (m : ℕ) → value m ≡ slice_index_or measures m Null
    at m = (λ i. done_value (unwrap_or (none m i) (Done (option_map_or (λ (values : Tuple). slice_index_or values m Null) (sym there i) Null))))

not_found : (key : Tuple) (m : ℕ) (assigned : List Assignment) → list_any (λ a. is_same key a.0) assigned ≡ false → find (assigns m key) assigned ≡ None
not_found key m [] h = refl
not_found key m (a ∷ assigned) h = by (is_same key a.0) refl h (not_found key m assigned)
  where
    by : (b : Bool) → is_same key a.0 ≡ b → (b || list_any (λ a. is_same key a.0) assigned) ≡ false → (list_any (λ a. is_same key a.0) assigned ≡ false → find (assigns m key) assigned ≡ None)
        → find (assigns m key) (a ∷ assigned) ≡ None
    by true e g rest = cc
    by false e g rest = rw e (rest g)

-- automatic values stand where something is assigned
pub stand_assigned : (model : Model) (shape : PartShape) (input : Cells) (given : CellInput) (results : Results) → HoldsValues model shape input given results → StandWhereAssigned shape.assigned results
stand_assigned model shape input given results held key none m =
    held.results_are (cell_name key m)
    ∙ ap (λ (o : Option Assignment). option_map (λ looks. slots_in model shape input (cell_name key m)) (option_map (λ (rule : Rule). looks_of (site_in model shape 0 key) rule.right)
    (option_and_then (λ number. slice_get model.part.rules (number - 1)) (option_map (λ (a : Assignment). a.2) o)))) (not_found key m shape.assigned none)
