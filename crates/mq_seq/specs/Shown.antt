-- The cells that a store shows, each with its measures.
use Rattle.std.specs.Prelude.{◌≡◌, ℕ, Bool, false, nat_lt, ◌&&◌, length, map, List, None, Some, if◌then◌else◌}
use Rattle.std.specs.List.{range_with_len}
use Rattle.std.specs.Option.{option_map_or}
use Rattle.mq_values.specs.declared.value.Value.{Value}
use Rattle.mq_ir.specs.declared.query.CellName.{CellName}
use Rattle.mq_ir.specs.declared.query.Slot.TheVariants.{Done}
use Rattle.mq_ir.specs.Keys.{Tuple, is_among}
use Rattle.mq_ir.specs.Partitions.{Cells}
use Rattle.mq_cells.specs.IndexedStores.{IndexedStore, input_in, keys_in, results_of, value_in}
use Rattle.mq_cells.specs.Stores.{cell_name, is_named}

-- how many measures a cell has: those that the input gives it, or, where it is not of the input, so many
abbrev pub measure_count : IndexedStore → ℕ → Tuple → ℕ
measure_count s count key = option_map_or length (input_in s key) count

abbrev pub has_measure : IndexedStore → ℕ → CellName → Bool
has_measure s count c = nat_lt c.measure (measure_count s count c.key)

-- the values at the first so many measures of a cell
abbrev pub values_over : IndexedStore → Tuple → ℕ → Tuple
values_over s key n = map (λ m. value_in s (cell_name key m)) (range_with_len 0 n)

-- the values at all its measures
abbrev pub measures_over : IndexedStore → ℕ → Tuple → Tuple
measures_over s count key = values_over s key (measure_count s count key)

abbrev pub cells_over : IndexedStore → ℕ → Cells
cells_over s count = map (λ key. (key, measures_over s count key)) (keys_in s)

-- results stand only at measures that the cells have
abbrev pub AtMeasures : IndexedStore → ℕ → Type 0
AtMeasures s count = (c : CellName) → has_measure s count c ≡ false → results_of s c ≡ None

-- and only at these cells
abbrev pub AtMarked : IndexedStore → List Tuple → Type 0
AtMarked s marked = (c : CellName) → is_among marked c.key ≡ false → results_of s c ≡ None

-- the results after differ from those before in that this value stands at a measure, where the cell has that measure
abbrev pub SetsAt : IndexedStore → IndexedStore → ℕ → CellName → Value → Type 0
SetsAt before after count name v =
    (c : CellName) → results_of after c ≡ (if is_named name c && has_measure before count name then Some (Done v) else results_of before c)
