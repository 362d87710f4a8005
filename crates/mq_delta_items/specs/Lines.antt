-- What a query without groups makes of the rows of its only table, row by row.
use Rattle.std.specs.Prelude.{◌≡◌, ℕ, List, [], ◌∷◌, length, nat_lt, if◌then◌else◌, Option, Some, None, Result, Ok}
use Rattle.std.specs.List.{filter_map}
use Rattle.std.specs.Option.{option_and_then}
use Rattle.std.specs.Result.{result_ok}
use Rattle.mq_values.specs.declared.faults.FaultKind.{FaultKind}
use Rattle.mq_values.specs.declared.limits.TheConstants.{MAX_BASE_ROWS}
use Rattle.mq_ir.specs.declared.query.FromPart.{FromPart}
use Rattle.mq_ir.specs.declared.query.ItemPart.{ItemPart}
use Rattle.mq_ir.specs.BaseRows.{all_true, conditions_of}
use Rattle.mq_ir.specs.Items.{items_at, items_over, row_leaves}
use Rattle.mq_ir.specs.Keys.{Tuple}
use Rattle.mq_ir.specs.Placed.{kind_of}
use Rattle.mq_ir.specs.Results.{◌>>=◌, each, marked}
use Rattle.mq_ir.specs.Tables.{Tables, rows_of}

-- the items over a row, or none where a condition is not true of it
abbrev pub line_of : FromPart → ItemPart → Tuple → Result (Option Tuple) FaultKind
line_of from part row =
    marked kind_of (all_true (row_leaves (row ∷ [])) (conditions_of from)) >>= (λ taken.
    if taken then items_at part.items (row_leaves (row ∷ [])) >>= (λ item. Ok (Some item)) else Ok None)

-- the items of the rows that are taken
abbrev pub items_in : List (Option Tuple) → List Tuple
items_in lines = filter_map (λ line. line) lines

-- these lines, if no more rows are taken than a query may have
abbrev pub few : List (Option Tuple) → Option (List (Option Tuple))
few lines = if nat_lt MAX_BASE_ROWS (length (items_in lines)) then None else Some lines

-- the line of each of these rows; none, where one of them faults, or too many are taken
abbrev pub lines_of : FromPart → ItemPart → List Tuple → Option (List (Option Tuple))
lines_of from part rows = option_and_then few (result_ok (each (line_of from part) rows))

-- a query that takes the rows of this table alone, and no groups of them
pub record GoesByRow (from : FromPart) (part : ItemPart) (table : List ℕ) : Type 0 where
  pub only : from.tables ≡ table ∷ []
  pub plain : part.group ≡ None

-- its items are those of the lines
abbrev pub LinesTell : Type 0
LinesTell =
    (tables : Tables) (from : FromPart) (part : ItemPart) (table : List ℕ) (lines : List (Option Tuple))
    → GoesByRow from part table → lines_of from part (rows_of tables table) ≡ Some lines
    → items_over tables from part ≡ Ok (items_in lines)
