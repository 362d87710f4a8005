-- What a store of cells holds, and what its calls make of it.
use Rattle.std.specs.Prelude.{◌≡◌, ℕ, ◌+◌, ◌==◌, Bool, true, false, ◌&&◌, min, List, Option, Some, None, if◌then◌else◌, slice_index_or, unwrap_or}
use Rattle.std.specs.List.{enumerate_from, filter}
use Rattle.std.specs.Option.{option_map, option_map_or}
use Rattle.std.specs.Ordering.{on}
use Rattle.mq_values.specs.declared.value.Value.{Value}
use Rattle.mq_values.specs.declared.value.Value.TheVariants.{Null}
use Rattle.mq_ir.specs.declared.query.CellName.{CellName}
use Rattle.mq_ir.specs.declared.query.Slot.{Slot}
use Rattle.mq_ir.specs.declared.query.Slot.TheVariants.{Done, Faulted, Poisoned}
use Rattle.mq_ir.specs.Keys.{Tuple, is_same}
use Rattle.mq_ir.specs.Shape.{Assignment, cmp_by_rule, least_of}
use Rattle.mq_ir.specs.Slots.{Slots}
use Rattle.mq_cells.specs.declared.bounds.TheConstants.{MAX_LOOKS}

-- the measures of each cell of the input
abbrev pub CellInput : Type 0
CellInput = Tuple → Option Tuple

-- what stands at assigned measures
abbrev pub Results : Type 0
Results = CellName → Option Slot

-- a measure of the cell at this tuple
abbrev pub cell_name : Tuple → ℕ → CellName
cell_name key m = record { key = key; measure = m }

-- the same measure of the same cell
abbrev pub is_named : CellName → CellName → Bool
is_named a b = is_same a.key b.key && (a.measure == b.measure)

-- what the input has at a measure; null where it does not have the cell
abbrev pub input_value : CellInput → CellName → Value
input_value input c = option_map_or (λ measures. slice_index_or measures c.measure Null) (input c.key) Null

-- what stands at a measure: the result where one stands, else what the input has
abbrev pub slot_at : CellInput → Results → Slots
slot_at input results c = unwrap_or (results c) (Done (input_value input c))

-- one more, as far as the count goes
abbrev pub counted : ℕ → ℕ
counted n = min (n + 1) MAX_LOOKS

-- the results after differ from those before in this one place alone, where this stands now
abbrev pub DiffersAt : Results → Results → CellName → Option Slot → Type 0
DiffersAt before after name slot = (c : CellName) → after c ≡ (if is_named name c then slot else before c)

abbrev pub is_faulted : Option Slot → Bool
is_faulted (Some (Faulted fault)) = true
is_faulted (Some (Done v)) = false
is_faulted (Some Poisoned) = false
is_faulted None = false

-- the measure that an assignment is of
abbrev pub name_assigned : Assignment → CellName
name_assigned a = cell_name a.0 a.1

-- the assignments whose result is a fault, each behind its number, where the first has number n
abbrev pub faulted_from : ℕ → Results → List Assignment → List (ℕ × Assignment)
faulted_from n results assigned = filter (λ e. is_faulted (results (name_assigned e.1))) (enumerate_from n assigned)

-- the number, from 0, of the assignment that is the least by rule, then cell, of those whose result is a fault
abbrev pub first_faulted : Results → List Assignment → Option ℕ
first_faulted results assigned = option_map (λ e. e.0) (least_of (on (λ e. e.1) cmp_by_rule) (faulted_from 0 results assigned))
