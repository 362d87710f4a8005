-- The cells of a partition by the numbers of their keys.
use Rattle.std.specs.Prelude.{◌≡◌, ℕ, ◌≤◌, Bool, true, false, List, Option, Some, None, is_some, length, slice_index_or, unwrap_or}
use Rattle.std.specs.List.{filter}
use Rattle.std.specs.Option.{option_and_then, option_map_or}
use Rattle.mq_values.specs.declared.value.Value.{Value}
use Rattle.mq_values.specs.declared.value.Value.TheVariants.{Null}
use Rattle.mq_ir.specs.declared.query.CellName.{CellName}
use Rattle.mq_ir.specs.declared.query.Slot.{Slot}
use Rattle.mq_ir.specs.declared.query.Slot.TheVariants.{Done, Faulted, Poisoned}
use Rattle.mq_ir.specs.Keys.{Tuple}
use Rattle.mq_ir.specs.Slots.{Slots, done_value}
use Rattle.mq_cells.specs.LaneItems.{Lanes, lane_item}
use Rattle.mq_cells.specs.Numberings.{Numbering, number_of}
use Rattle.mq_cells.specs.Stores.{CellInput, Results, slot_at}

-- no fault stands there, and nothing that is poisoned
abbrev pub is_sound : Option Slot → Bool
is_sound (Some (Done v)) = true
is_sound (Some (Faulted fault)) = false
is_sound (Some Poisoned) = false
is_sound None = true

-- the keys with their numbers; by these the measures of the input, and measure by measure what stands over them; whether
-- none of that is a fault or poisoned, and how many were read
pub record IndexedStore : Type 0 where
  pub cells : Numbering
  pub given : List (Option Tuple)
  pub lanes : Lanes Slot
  pub sound : Bool
  pub looks : ℕ

-- the measures that the input has at the cell with this number
abbrev pub given_by : List (Option Tuple) → Option ℕ → Option Tuple
given_by given number = option_and_then (λ n. slice_index_or given n None) number

-- the result at a measure of the cell with this number
abbrev pub result_by : Lanes Slot → ℕ → Option ℕ → Option Slot
result_by lanes m number = option_and_then (λ n. lane_item lanes m n) number

-- the value of the input at a measure of the cell with this number; null where it does not have the cell
abbrev pub value_by : List (Option Tuple) → ℕ → Option ℕ → Value
value_by given m number = option_map_or (λ measures. slice_index_or measures m Null) (given_by given number) Null

-- what stands at a measure of the cell with this number
abbrev pub slot_by : List (Option Tuple) → Lanes Slot → ℕ → Option ℕ → Slot
slot_by given lanes m number = unwrap_or (result_by lanes m number) (Done (value_by given m number))

abbrev pub input_over : Numbering → List (Option Tuple) → CellInput
input_over cells given key = given_by given (number_of cells key)

abbrev pub results_over_numbers : Numbering → Lanes Slot → Results
results_over_numbers cells lanes c = result_by lanes c.measure (number_of cells c.key)

-- the keys of the cells that are there, ascending
unfoldable pub keys_in : IndexedStore → List Tuple
keys_in s = s.cells.keys

-- the measures of each cell of the input
unfoldable pub input_in : IndexedStore → CellInput
input_in s = input_over s.cells s.given

-- what stands at assigned measures
unfoldable pub results_of : IndexedStore → Results
results_of s = results_over_numbers s.cells s.lanes

-- how many slots were read
unfoldable pub looks_of : IndexedStore → ℕ
looks_of s = s.looks

-- where it is true no result is a fault or poisoned
unfoldable pub sound_in : IndexedStore → Bool
sound_in s = s.sound

-- what stands at every measure
abbrev pub slots_in : IndexedStore → Slots
slots_in s = slot_at (input_in s) (results_of s)

-- the value at a measure; null where a fault stands
abbrev pub value_in : IndexedStore → CellName → Value
value_in s c = done_value (slots_in s c)

-- the keys of the input, ascending
abbrev pub base_in : IndexedStore → List Tuple
base_in s = filter (λ key. is_some (input_in s key)) (keys_in s)

-- no measures stand at a number that no cell has
abbrev pub IsFree : Numbering → List (Option Tuple) → Type 0
IsFree cells given = (n : ℕ) → length cells.numbers ≤ n → slice_index_or given n None ≡ None

-- nothing stands at a number that no cell has, and where it says so all results are sound
pub record AreKept (cells : Numbering) (given : List (Option Tuple)) (lanes : Lanes Slot) (sound : Bool) : Type 0 where
  pub free_given : IsFree cells given
  pub free_lanes : (m n : ℕ) → length cells.numbers ≤ n → lane_item lanes m n ≡ None
  pub all_sound : sound ≡ true → (m n : ℕ) → is_sound (lane_item lanes m n) ≡ true
