-- A change that was judged, before it is committed.
use Rattle.std.specs.Prelude.{◌≡◌, ℕ, ◌≤◌, true, false, List, ◌++◌, length, map, not, if◌then◌else◌, Option, Some, None, IfSome, Result, Ok, slice_get}
use Rattle.std.specs.List.{AllZip, enumerate_from, filter, list_all, range_with_len}
use Rattle.std.specs.Option.{ok_or, option_map_or}
use Rattle.mq_values.specs.declared.faults.Refused.{Refused}
use Rattle.mq_values.specs.declared.faults.Refused.TheVariants as refused
use Rattle.mq_values.specs.declared.limits.TheConstants.{MAX_ROWS}
use Rattle.mq_ir.specs.declared.statement.Change.{Change}
use Rattle.mq_ir.specs.declared.statement.Change.TheVariants.{Insert, Append, Update, Delete}
use Rattle.mq_ir.specs.Changes.{Visited, deleted_row, key_fault, table_of, updated_row}
use Rattle.mq_ir.specs.FitsStatement.{change_fits_schema, is_row_of}
use Rattle.mq_ir.specs.Keys.{Tuple}
use Rattle.mq_ir.specs.Results.{◌>>=◌, each}
use Rattle.mq_ir.specs.Statement.{staged}
use Rattle.mq_ir.specs.Tables.{Table, Tables, table_at}

-- The rows that a table would have. `had` is how many it has, `counted` how many are counted. For each new row `origins` has the
-- place at which that row stands in the table, or none: where the change inserts it or, in an UPDATE, visits it as true.
pub record Staged : Type 0 where
  pub table : List ℕ
  pub had : ℕ
  pub rows : List Tuple
  pub counted : ℕ
  pub origins : List (Option ℕ)

-- rows that stay at their places, and rows that come behind them
abbrev pub stays : List Tuple → List (Option ℕ)
stays rows = map Some (range_with_len 0 (length rows))

abbrev pub new_places : {A : Type 0} → List A → List (Option ℕ)
new_places rows = map (λ _. None) rows

-- a row of an UPDATE, and one that a DELETE leaves
abbrev pub place_unless_true : ℕ × Visited → Option ℕ
place_unless_true (place, row) = if row.1 then None else Some place

abbrev pub places_left : List Visited → List (Option ℕ)
places_left rows = map (λ row. Some row.0) (filter (λ row. not row.1.1) (enumerate_from 0 rows))

abbrev pub origins_of : Table → Change → Result (List (Option ℕ)) Refused
origins_of table (Insert name rows) = Ok (stays table.rows ++ new_places rows)
origins_of table (Append name rows) = Ok (stays table.rows ++ new_places rows)
origins_of table (Update name sets filter) =
    each (updated_row table.schema sets filter) (enumerate_from 1 table.rows) >>= (λ rows. Ok (map place_unless_true (enumerate_from 0 rows)))
origins_of table (Delete name filter) = each (deleted_row filter) (enumerate_from 1 table.rows) >>= (λ rows. Ok (places_left rows))

-- what a change comes to, or why it is refused
abbrev pub staging : Tables → Change → Result Staged Refused
staging tables change =
    ok_or (table_at tables (table_of change)) (refused.UnknownName (table_of change)) >>= (λ table.
    staged tables table change >>= (λ changed.
    origins_of table change >>= (λ origins.
    Ok (record { table = table.name; had = length table.rows; rows = changed.0; counted = changed.1; origins = origins }))))

-- a row that stood at its old place, where it has one
abbrev pub StoodAt : List Tuple → Tuple → Option ℕ → Type 0
StoodAt old row origin = IfSome origin (λ place. slice_get old place ≡ Some row)

-- A staged change stands on these tables: its table is there, with as many rows as it noted, and each new row with an old place equals
-- the row at that place. The new rows are rows of the table, no more than a table may have, and no two of them share a key.
pub record StandsOn (tables : Tables) (s : Staged) : Type 0 where
  pub table : Table
  pub is_there : table_at tables s.table ≡ Some table
  pub as_many : length table.rows ≡ s.had
  pub kept : AllZip (StoodAt table.rows) s.rows s.origins
  pub within : length s.rows ≤ MAX_ROWS
  pub fit : list_all (is_row_of table.schema) s.rows ≡ true
  pub apart : key_fault table.schema s.rows ≡ None

-- a change whose table is there and which fits its columns
abbrev pub ChangeFits : Tables → Change → Type 0
ChangeFits tables change = option_map_or (λ t. change_fits_schema t.schema change) (table_at tables (table_of change)) false ≡ true
