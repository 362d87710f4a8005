-- Cells that change, beside what stood at each before it changed.
use Rattle.std.specs.Prelude.{ℕ, replicate, slice_set, List, [], Option, Some, None, is_some, if◌then◌else◌, unwrap_or, slice_index_or}
use Rattle.std.specs.BTreeMap.{insert_entry}
use Rattle.std.specs.List.{fold}
use Rattle.std.specs.Map.{lookup}
use Rattle.std.specs.Option.{option_map_or}
use Rattle.mq_values.specs.Order.{cmp_key}
use Rattle.mq_values.specs.declared.value.Value.{Value}
use Rattle.mq_values.specs.declared.value.Value.TheVariants.{Null}
use Rattle.mq_ir.specs.Keys.{Tuple, is_same}
use Rattle.mq_ir.specs.Partitions.{Cells, cell_at, with_cell}
use Rattle.mq_ir.specs.Reads.{Measures}

-- for each cell that changed, its measures as they were before, where there was such a cell
abbrev pub Firsts : Type 0
Firsts = List (Tuple × Option Tuple)

abbrev pub first_at : Firsts → Tuple → Option (Option Tuple)
first_at firsts key = lookup (is_same key) firsts

-- a cell is noted before it changes; what is noted of it already stays
abbrev pub noted : Firsts → Tuple → Cells → Firsts
noted firsts key cells = if is_some (first_at firsts key) then firsts else insert_entry cmp_key firsts key (cell_at cells key)

-- the same, where anything is noted at all
abbrev pub noted_if_any : Option Firsts → Tuple → Cells → Option Firsts
noted_if_any None key cells = None
noted_if_any (Some firsts) key cells = Some (noted firsts key cells)

-- the cells, and what is noted of those that changed since a turn began
pub record Track : Type 0 where
  pub cells : Cells
  pub firsts : Option Firsts

-- the measures of a cell when the turn began: those that are noted, else those that stand there now
abbrev pub start_of : Track → Tuple → Option Tuple
start_of t key = option_map_or (λ firsts. unwrap_or (first_at firsts key) (cell_at t.cells key)) t.firsts None

-- a measure of a cell when the turn began; null where the cell was not there
abbrev pub measure_from : Track → Measures
measure_from t c = option_map_or (λ measures. slice_index_or measures c.measure Null) (start_of t c.key) Null

-- a turn begins
abbrev pub begun_track : Track → Track
begun_track t = record t { firsts = Some [] }

-- these measures at this tuple
abbrev pub put : Track → Tuple → Tuple → Track
put t key measures = record { cells = with_cell t.cells key measures; firsts = noted_if_any t.firsts key t.cells }

-- created cells have null in each of so many measures
abbrev pub create : ℕ → Track → List Tuple → Track
create count = fold (λ t key. put t key (replicate count Null))

-- one measure of a cell that is there set to v
abbrev pub assign : Track → Tuple → ℕ → Value → Track
assign t key m v = option_map_or (λ measures. put t key (slice_set measures m v)) (cell_at t.cells key) t
