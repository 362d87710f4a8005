-- What a change makes of the rows of its table, and why it is refused.
use Rattle.std.specs.Prelude.{ℕ, ◌+◌, ◌*◌, List, [], ◌∷◌, ◌++◌, length, map, sum_by, Bool, true, false, ◌&&◌, not, nat_lt, if◌then◌else◌, Option, Some, None, Result, Ok, Err, slice_index_or, slice_set, slice_get}
use Rattle.std.specs.List.{enumerate_from, filter, fold, zip}
use Rattle.std.specs.Option.{option_map, option_map_or}
use Rattle.mq_values.specs.Aggregate.{is_value}
use Rattle.mq_values.specs.declared.faults.Refused.{Refused}
use Rattle.mq_values.specs.declared.faults.Refused.TheVariants as refused
use Rattle.mq_values.specs.declared.value.Value.{Value}
use Rattle.mq_values.specs.declared.value.Value.TheVariants.{Null}
use Rattle.mq_values.specs.Truth.{is_true}
use Rattle.mq_ir.specs.declared.limit_numbers.TheConstants.{LIMIT_OF_ROWS, LIMIT_OF_VALUES}
use Rattle.mq_ir.specs.declared.expression.Expr.{Expr}
use Rattle.mq_ir.specs.declared.statement.Change.{Change}
use Rattle.mq_ir.specs.declared.statement.Change.TheVariants.{Insert, Append, Update, Delete}
use Rattle.mq_ir.specs.declared.statement.Column.{Column}
use Rattle.mq_ir.specs.declared.statement.Schema.{Schema}
use Rattle.mq_ir.specs.Expression.{holds}
use Rattle.mq_ir.specs.Items.{row_leaves}
use Rattle.mq_ir.specs.Keys.{is_among}
use Rattle.mq_values.specs.declared.limits.TheConstants.{MAX_ROWS, MAX_VALUES}
use Rattle.mq_ir.specs.Partitions.{Tuple}
use Rattle.mq_ir.specs.Results.{◌>>=◌, each, marked}
use Rattle.mq_ir.specs.Tables.{Table, Tables}
use Rattle.mq_ir.specs.Unfolding.{converted}

-- the table that a change is of
abbrev pub table_of : Change → List ℕ
table_of (Insert name rows) = name
table_of (Append name rows) = name
table_of (Update name sets filter) = name
table_of (Delete name filter) = name

-- the value of a column in the row of this number, over the row as it was: evaluated, converted, and asked for null
abbrev pub column_value : List Tuple → ℕ → Column → Expr → Result Value Refused
column_value row number col e =
    marked (refused.ChangeValue number) (converted (row_leaves row) col.kind e) >>= (λ v.
    if col.not_null && not (is_value v) then Err (refused.NotNull col.name) else Ok v)

-- the rows of INSERT: no column is known in them
abbrev pub inserted_row : Schema → ℕ × List Expr → Result Tuple Refused
inserted_row schema (number, es) = each (λ (col, e). column_value [] number col e) (zip schema.cols es)

-- whether UPDATE or DELETE visits a row as true
abbrev pub is_chosen : Option Expr → ℕ × Tuple → Result Bool Refused
is_chosen None row = Ok true
is_chosen (Some e) (number, row) = marked (refused.ChangeValue number) (holds (row_leaves (row ∷ [])) e) >>= (λ truth. Ok (is_true truth))

-- the columns that are set, in text order, over the old row
abbrev pub set_values : Schema → List (ℕ × Expr) → ℕ × Tuple → Result (List (ℕ × Value)) Refused
set_values schema sets (number, row) =
    each (λ (c, e).
    option_map_or (λ col. column_value (row ∷ []) number col e) (slice_get schema.cols c) (Ok Null) >>= (λ v. Ok (c, v))) sets

abbrev pub with_values : Tuple → List (ℕ × Value) → Tuple
with_values = fold (λ row set. slice_set row set.0 set.1)

-- a row after a change, and whether it was visited as true
abbrev pub Visited : Type 0
Visited = Tuple × Bool

abbrev pub updated_row : Schema → List (ℕ × Expr) → Option Expr → ℕ × Tuple → Result Visited Refused
updated_row schema sets filter row =
    is_chosen filter row >>= (λ chosen.
    elim chosen [ true ↦ set_values schema sets row >>= (λ values. Ok (with_values row.1 values, true)) | false ↦ Ok (row.1, false) ])

abbrev pub deleted_row : Option Expr → ℕ × Tuple → Result Visited Refused
deleted_row filter row = is_chosen filter row >>= (λ chosen. Ok (row.1, chosen))

abbrev pub visited_as : Bool → List Visited → List Tuple
visited_as wanted rows = map (λ row. row.0) (filter (λ row. if wanted then row.1 else not row.1) rows)

-- the rows that a table would have, and how many rows are counted
abbrev pub Changed : Type 0
Changed = List Tuple × ℕ

abbrev pub rows_changed : Table → Change → Result Changed Refused
rows_changed table (Insert name rows) =
    each (inserted_row table.schema) (enumerate_from 1 rows) >>= (λ new. Ok (table.rows ++ new, length new))
rows_changed table (Append name rows) = Ok (table.rows ++ rows, length rows)
rows_changed table (Update name sets filter) =
    each (updated_row table.schema sets filter) (enumerate_from 1 table.rows) >>= (λ rows.
    Ok (map (λ row. row.0) rows, length (visited_as true rows)))
rows_changed table (Delete name filter) =
    each (deleted_row filter) (enumerate_from 1 table.rows) >>= (λ rows.
    Ok (visited_as false rows, length (visited_as true rows)))

-- the key of a row, with the columns in the order of PRIMARY KEY
abbrev pub row_key : Schema → Tuple → Tuple
row_key schema row = map (λ c. slice_index_or row c Null) schema.key

-- the key at the least place that repeats an earlier one
abbrev pub first_repeated : List Tuple → List Tuple → Option Tuple
first_repeated earlier [] = None
first_repeated earlier (key ∷ keys) = if is_among earlier key then Some key else first_repeated (key ∷ earlier) keys

abbrev pub key_fault : Schema → List Tuple → Option Refused
key_fault schema rows =
    elim schema.key [ [] ↦ None | _ ∷ _ ↦ option_map refused.DuplicateKey (first_repeated [] (map (row_key schema) rows)) ]

-- how many rows a change adds before any of them is looked at
abbrev pub rows_added : Change → ℕ
rows_added (Insert name rows) = length rows
rows_added (Append name rows) = length rows
rows_added (Update name sets filter) = 0
rows_added (Delete name filter) = 0

-- the values of all tables: rows times columns
abbrev pub value_count : Tables → ℕ
value_count tables = sum_by (λ t. length t.rows * length t.schema.cols) tables

abbrev pub size_fault : Tables → Table → ℕ → Option Refused
size_fault tables table added =
    if nat_lt MAX_ROWS (length table.rows + added) then Some (refused.Limit LIMIT_OF_ROWS)
    else (if nat_lt MAX_VALUES (value_count tables + added * length table.schema.cols) then Some (refused.Limit LIMIT_OF_VALUES) else None)
