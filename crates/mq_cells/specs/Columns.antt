-- Results as columns, one a measure, and the cells of a whole partition.
use Rattle.std.specs.Prelude.{◌≡◌, ℕ, List, Option, None, if◌then◌else◌, slice_get}
use Rattle.std.specs.Map.{lookup}
use Rattle.std.specs.Option.{option_and_then}
use Rattle.mq_ir.specs.declared.query.Slot.{Slot}
use Rattle.mq_ir.specs.Keys.{Tuple, is_same}
use Rattle.mq_ir.specs.Partitions.{Cells}
use Rattle.mq_cells.specs.Stores.{Results}

-- what stands at one measure of cells, by their tuples
abbrev pub Column : Type 0
Column = List (Tuple × Slot)

-- what stands at this tuple, where entries have their tuples in front
abbrev pub found_in : {X : Type 0} → Tuple → List (Tuple × X) → Option X
found_in key entries = lookup (is_same key) entries

-- the entries after differ from those before at this tuple alone, where this stands now
abbrev pub ChangesAt : {X : Type 0} → List (Tuple × X) → List (Tuple × X) → Tuple → Option X → Type 0
ChangesAt before after key x = (k : Tuple) → found_in k after ≡ (if is_same key k then x else found_in k before)

-- what stands in columns that are numbered from 0, as measures are
abbrev pub results_in : List Column → Results
results_in columns c = option_and_then (found_in c.key) (slice_get columns c.measure)

-- nothing stands
abbrev pub no_results : Results
no_results c = None

-- the cells of a partition, the columns of what stands, and how many were read
pub record Store : Type 0 where
  pub cells : Cells
  pub columns : List Column
  pub looks : ℕ
