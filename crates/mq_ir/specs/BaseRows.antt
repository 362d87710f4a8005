-- The base rows of a query: tuples of row places, one place for each FROM item.
use Rattle.std.specs.Prelude.{ℕ, Bool, true, false, List, [], ◌∷◌, ◌++◌, length, map, nat_lt, slice_index_or, Result, Ok, Err, if◌then◌else◌}
use Rattle.std.specs.List.{filter_map, range_with_len, zip}
use Rattle.std.specs.Option.{option_to_list}
use Rattle.mq_values.specs.Truth.{is_true}
use Rattle.mq_values.specs.declared.faults.FaultKind.{FaultKind}
use Rattle.mq_values.specs.declared.faults.FaultKind.TheVariants as kind
use Rattle.mq_values.specs.declared.faults.ValueFault.{ValueFault}
use Rattle.mq_values.specs.declared.value.Value.TheVariants.{Null}
use Rattle.mq_ir.specs.declared.expression.Expr.{Expr}
use Rattle.mq_ir.specs.declared.expression.Expr.TheOpen as layer
use Rattle.mq_ir.specs.declared.expression.Leaf.{Leaf, out-Leaf}
use Rattle.mq_ir.specs.declared.query.FromPart.{FromPart}
use Rattle.mq_ir.specs.Combinations.{combinations}
use Rattle.mq_ir.specs.Expression.{Outcome, holds}
use Rattle.mq_values.specs.declared.limits.TheConstants.{MAX_BASE_ROWS}
use Rattle.mq_ir.specs.Partitions.{Tuple}
use Rattle.mq_ir.specs.Placed.{kind_of}
use Rattle.mq_ir.specs.Results.{◌>>=◌, each_in_turn, marked}
use Rattle.mq_ir.specs.Tables.{Tables, rows_of}

-- the places of rows in the FROM items, from the first item on
abbrev pub Places : Type 0
Places = List ℕ

-- all tuples of places in items of so many rows, the first item turning slowest
abbrev pub all_places : List ℕ → List Places
all_places counts = combinations (map (range_with_len 0) counts)

-- the rows that stand at these places of the items
abbrev pub rows_at : List (List Tuple) → Places → List Tuple
rows_at items places = map (λ (rows, place). slice_index_or rows place []) (zip items places)

-- the value of a column of a row of a FROM item; null where there is none
abbrev pub column_at : List Tuple → ℕ → ℕ → Outcome
column_at rows item column = Ok (slice_index_or (slice_index_or rows item []) column Null)

-- the leaves of an expression over a row for each FROM item: its columns, and nothing else
abbrev pub row_leaves : List Tuple → Leaf → Outcome
row_leaves rows l = elim (out-Leaf l) [ layer.Column item column ↦ column_at rows item column | _ ↦ Ok Null ]

-- the ON conditions in text order, and then WHERE
abbrev pub conditions_of : FromPart → List Expr
conditions_of from = filter_map (λ on. on) from.ons ++ option_to_list from.filter

-- whether all conditions are true; the first that is not is the last that is evaluated
abbrev pub all_true : (Leaf → Outcome) → List Expr → Result Bool ValueFault
all_true leaves [] = Ok true
all_true leaves (e ∷ es) = holds leaves e >>= (λ t. if is_true t then all_true leaves es else Ok false)

-- one tuple more, as far as there is room for it
abbrev pub with_row : Places → List Places → Result (List Places) FaultKind
with_row places kept = if nat_lt (length kept) MAX_BASE_ROWS then Ok (kept ++ places ∷ []) else Err kind.TooManyRows

-- a tuple is kept where all conditions are true of its rows
abbrev pub row_step : FromPart → List (List Tuple) → Places → List Places → Result (List Places) FaultKind
row_step from items places kept =
    marked kind_of (all_true (row_leaves (rows_at items places)) (conditions_of from)) >>= (λ taken.
    if taken then with_row places kept else Ok kept)

-- the rows of each FROM item
abbrev pub items_of : Tables → FromPart → List (List Tuple)
items_of tables from = map (rows_of tables) from.tables

-- The places of the base rows in the rows of the FROM items: all tuples whose conditions are true, in order, or the first event of the walk over all tuples.
abbrev pub kept_places : FromPart → List (List Tuple) → Result (List Places) FaultKind
kept_places from items = each_in_turn (row_step from items) (all_places (map length items)) []

-- The base rows, each as the rows that it is made of, one for each FROM item.
abbrev pub base_rows : Tables → FromPart → Result (List (List Tuple)) FaultKind
base_rows tables from = let items = items_of tables from in kept_places from items >>= (λ kept. Ok (map (rows_at items) kept))
