-- Changes that are held over earlier ones, none of which is committed.
use Rattle.std.specs.Prelude.{ℕ, ◌+◌, Bool, List, [], ◌∷◌, length, map, if◌then◌else◌, Option, Some, None, Result, Ok, slice_index_or}
use Rattle.std.specs.List.{find}
use Rattle.std.specs.Option.{option_map, option_map_or}
use Rattle.mq_values.specs.declared.faults.Refused.{Refused}
use Rattle.mq_ir.specs.declared.statement.Change.{Change}
use Rattle.mq_ir.specs.declared.statement.Schema.{Schema}
use Rattle.mq_ir.specs.Changes.{rows_changed, table_of}
use Rattle.mq_ir.specs.Keys.{Tuple}
use Rattle.mq_ir.specs.Results.{◌>>=◌}
use Rattle.mq_ir.specs.Tables.{Table, Tables, is_name}
use Rattle.mq_tables.specs.KeyOrder.{judged}
use Rattle.mq_tables.specs.Sizes.{capped}
use Rattle.mq_tables.specs.Staging.{Staged, origins_of, staging}

-- what a change of one table comes to, once its size is judged
abbrev pub step_of : Table → Change → Result Staged Refused
step_of table change =
    rows_changed table change >>= (λ changed.
    judged table.schema changed.0 >>= (λ rows.
    origins_of table change >>= (λ origins.
    Ok (record { table = table.name; had = length table.rows; rows = rows; counted = changed.1; origins = origins }))))

-- the old place of a row that stood at a place, or is new, before later changes
abbrev pub through : List (Option ℕ) → Option ℕ → Option ℕ
through earlier None = None
through earlier (Some place) = slice_index_or earlier place None

-- a step after what is held of its table: both are counted, and places are those before all that was held
abbrev pub combined : Staged → Staged → Staged
combined s step = record s {
  rows = step.rows;
  counted = capped (s.counted + step.counted);
  origins = map (through s.origins) step.origins;
}

-- a step of rows that have this schema, and how many rows it counts
abbrev pub held_over : Schema → Staged → Change → Result (Staged × ℕ) Refused
held_over schema s change =
    step_of (record { name = s.table; schema = schema; rows = s.rows }) change >>= (λ step. Ok (combined s step, step.counted))

-- what is held of the table of a name
abbrev pub is_of : List ℕ → Staged → Bool
is_of name s = is_name name s.table

-- the pending rows of a touched table
abbrev pub rows_held : List Staged → List ℕ → Option (List Tuple)
rows_held pending name = option_map (λ (s : Staged). s.rows) (find (is_of name) pending)

-- a table, and the tables, as held changes leave them
abbrev pub pending_rows : List Staged → Table → List Tuple
pending_rows pending t = option_map_or (λ (s : Staged). s.rows) (find (is_of t.name) pending) t.rows

abbrev pub with_held : List Staged → Table → Table
with_held pending t = record t { rows = pending_rows pending t }

abbrev pub with_pending : Tables → List Staged → Tables
with_pending tables pending = map (with_held pending) tables

-- what is held after a step of the table of a name: it is combined with what is held of that table, or comes last
abbrev pub held : List ℕ → List Staged → Staged → List Staged
held name [] step = step ∷ []
held name (s ∷ pending) step = if is_of name s then combined s step ∷ pending else s ∷ held name pending step

-- a change more of a table, once its size is judged
abbrev pub held_one : List Staged → Table → Change → Result (List Staged × ℕ) Refused
held_one pending t change = step_of (with_held pending t) change >>= (λ step. Ok (held t.name pending step, step.counted))

-- what holding a change comes to, and how many rows it counts; or why it is refused
abbrev pub holding : Tables → List Staged → Change → Result (List Staged × ℕ) Refused
holding tables pending change =
    staging (with_pending tables pending) change >>= (λ step. Ok (held (table_of change) pending step, step.counted))
