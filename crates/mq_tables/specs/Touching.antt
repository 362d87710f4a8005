-- What a change makes of rows where they stand, and what it touches of them.
use Rattle.std.specs.Prelude.{ℕ, ◌≤◌, List, [], ◌++◌, length, Option, None, Result, Ok, slice_set}
use Rattle.std.specs.List.{enumerate_from, fold}
use Rattle.std.specs.Option.{ok_or}
use Rattle.mq_values.specs.declared.faults.Refused.{Refused}
use Rattle.mq_values.specs.declared.faults.Refused.TheVariants as refused
use Rattle.mq_ir.specs.declared.expression.Expr.{Expr}
use Rattle.mq_ir.specs.declared.statement.Change.{Change}
use Rattle.mq_ir.specs.declared.statement.Change.TheVariants.{Insert, Append, Update, Delete}
use Rattle.mq_ir.specs.declared.statement.Schema.{Schema}
use Rattle.mq_ir.specs.Changes.{deleted_row, inserted_row, rows_changed, table_of, updated_row}
use Rattle.mq_ir.specs.Keys.{Tuple}
use Rattle.mq_ir.specs.Results.{◌>>=◌, each}
use Rattle.mq_ir.specs.Tables.{Table, Tables, table_at}
use Rattle.mq_tables.specs.declared.touched.Touched.{Touched}
use Rattle.mq_tables.specs.declared.touched.Touched.TheVariants.{Added, Replaced, Gone}
use Rattle.mq_tables.specs.InPlace.{items_left}
use Rattle.mq_tables.specs.KeyOrder.{judged}
use Rattle.mq_tables.specs.Visits.{flags_of, taken}

-- what a change touches of these rows
abbrev pub touching : Schema → List Tuple → Change → Result Touched Refused
touching schema rows (Insert name new) =
    each (inserted_row schema) (enumerate_from 1 new) >>= (λ new. Ok (Added (length rows) (length new)))
touching schema rows (Append name new) = Ok (Added (length rows) (length new))
touching schema rows (Update name sets filter) =
    each (updated_row schema sets filter) (enumerate_from 1 rows) >>= (λ visited. Ok (Replaced (taken rows visited)))
touching schema rows (Delete name filter) =
    each (deleted_row filter) (enumerate_from 1 rows) >>= (λ visited. Ok (Gone (flags_of visited) (taken rows visited)))

-- how many rows are counted
abbrev pub count_of : Touched → ℕ
count_of (Added first count) = count
count_of (Replaced rows) = length rows
count_of (Gone flags rows) = length rows

-- rows of no table in particular
abbrev pub table_with : Schema → List Tuple → Table
table_with schema rows = record { name = []; schema = schema; rows = rows }

-- the rows after a change, once their keys are judged, and what it touched
abbrev pub made : Schema → List Tuple → Change → Result (List Tuple × Touched) Refused
made schema rows change =
    rows_changed (table_with schema rows) change >>= (λ changed.
    judged schema changed.0 >>= (λ after.
    touching schema rows change >>= (λ touched. Ok (after, touched))))

-- the same of the kinds of change
abbrev pub made_behind : Schema → List Tuple → List Tuple → Result (List Tuple × Touched) Refused
made_behind schema rows new = judged schema (rows ++ new) >>= (λ after. Ok (after, Added (length rows) (length new)))

abbrev pub made_by_update : Schema → List (ℕ × Expr) → Option Expr → List Tuple → Result (List Tuple × Touched) Refused
made_by_update schema sets filter rows = made schema rows (Update [] sets filter)

abbrev pub made_by_delete : Schema → Option Expr → List Tuple → Result (List Tuple × Touched) Refused
made_by_delete schema filter rows = made schema rows (Delete [] filter)

-- The old places of the first rows, after a change touched the rows: those that it replaced have none, nor have those that came.
abbrev pub forgotten : List (ℕ × Tuple) → List (Option ℕ) → List (Option ℕ)
forgotten rows places = fold (λ places row. slice_set places row.0 None) places rows

abbrev pub noted : List (Option ℕ) → Touched → List (Option ℕ)
noted places (Added first count) = places
noted places (Replaced rows) = forgotten rows places
noted places (Gone flags rows) = items_left places flags

-- what is touched is told of so many rows, or more
abbrev pub IsOf : ℕ → Touched → Type 0
IsOf count (Added first more) = Unit {0}
IsOf count (Replaced rows) = Unit {0}
IsOf count (Gone flags rows) = count ≤ length flags

-- the tables where that at a place is changed, and what the change touched
abbrev pub changed_at : Tables → ℕ → Table → Change → Result (Tables × Touched) Refused
changed_at tables place table change =
    made table.schema table.rows change >>= (λ done. Ok (slice_set tables place (record table { rows = done.0 }), done.1))

-- what a change touches of the rows of its table
abbrev pub touched_by : Tables → Change → Result Touched Refused
touched_by tables change =
    ok_or (table_at tables (table_of change)) (refused.UnknownName (table_of change)) >>= (λ t. touching t.schema t.rows change)
