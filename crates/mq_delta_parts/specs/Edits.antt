-- Cells that are amended by the rows that went and came.
use Rattle.std.specs.Prelude.{List, [], ◌∷◌, ◌++◌, map, Bool, false, ◌||◌, Option, Some, None, if◌then◌else◌}
use Rattle.std.specs.List.{filter, list_any}
use Rattle.std.specs.Option.{option_map}
use Rattle.std.specs.List.Sorted.{IsStrictlySortedBy}
use Rattle.std.specs.Ordering.{is_gt, is_lt, on}
use Rattle.std.specs.declared.cmp.Ordering.{Ordering}
use Rattle.mq_values.specs.Order.{cmp_key}
use Rattle.mq_ir.specs.Keys.{is_same, Tuple}
use Rattle.mq_ir.specs.Partitions.{Cells, ascending}

-- the dimension tuple of a row, with its measures where the row came
abbrev pub Edit : Type 0
Edit = Tuple × Option Tuple

-- by the tuple that stands first
abbrev pub by_tuple : {A : Type 0} → Tuple × A → Tuple × A → Ordering
by_tuple = on (λ pair. pair.0) cmp_key

-- cells that ascend, each tuple once
abbrev pub Ascends : Cells → Type 0
Ascends cells = IsStrictlySortedBy by_tuple cells

abbrev pub going : Tuple × Tuple → Edit
going row = (row.0, None)

abbrev pub coming : Tuple × Tuple → Edit
coming row = (row.0, Some row.1)

-- the edits of rows that went and came, ascending by their tuples; of one tuple those that went stand first
abbrev pub edits_of : List (Tuple × Tuple) → List (Tuple × Tuple) → List Edit
edits_of gone come = ascending by_tuple (map going gone ++ map coming come)

-- the cells below a tuple, and those above it
abbrev pub below : Tuple → Cells → Cells
below tuple cells = filter (λ cell. is_lt (cmp_key cell.0 tuple)) cells

abbrev pub above : Tuple → Cells → Cells
above tuple cells = filter (λ cell. is_gt (cmp_key cell.0 tuple)) cells

-- whether a cell stands at a tuple
abbrev pub has_cell : Cells → Tuple → Bool
has_cell cells tuple = list_any (λ cell. is_same tuple cell.0) cells

-- whether the first of some edits is of this tuple
abbrev pub begins_with : List Edit → Tuple → Bool
begins_with [] tuple = false
begins_with (edit ∷ edits) tuple = is_same tuple edit.0

-- the cells up to an edit: those below its tuple, and its own where its row came; none, where the tuple would stand twice.
-- Behind it come these edits
abbrev pub front_of : Cells → Edit → List Edit → Option Cells
front_of cells (tuple, None) edits = Some (below tuple cells)
front_of cells (tuple, Some measures) edits =
    if has_cell cells tuple || begins_with edits tuple then None else Some (below tuple cells ++ (tuple, measures) ∷ [])

-- cells behind others
abbrev pub joined : Option Cells → Option Cells → Option Cells
joined None rest = None
joined (Some front) rest = option_map (λ cells. front ++ cells) rest

-- the cells after these edits; none, where a tuple would stand twice
abbrev pub amended : Cells → List Edit → Option Cells
amended cells [] = Some cells
amended cells (edit ∷ edits) = joined (front_of cells edit edits) (amended (above edit.0 cells) edits)
