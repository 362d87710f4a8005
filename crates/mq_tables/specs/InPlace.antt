-- Lists that are altered where they stand.
use Rattle.std.specs.Prelude.{◌≡◌, ℕ, List, [], ◌∷◌, ◌++◌, Bool, true, false, not, map, Result, Ok, Err, slice_set}
use Rattle.std.specs.List.{filter, zip}
use Rattle.mq_values.specs.declared.faults.Refused.{Refused}
use Rattle.mq_values.specs.declared.memory.Fail.{Fail}
use Rattle.mq_values.specs.declared.memory.Fail.TheVariants as fail
use Rattle.mq_ir.specs.declared.statement.Change.{Change}
use Rattle.mq_ir.specs.declared.statement.Schema.{Schema}
use Rattle.mq_ir.specs.Changes.{row_key, visited_as}
use Rattle.mq_ir.specs.Keys.{Tuple}
use Rattle.mq_ir.specs.Results.{◌>>=◌}
use Rattle.mq_ir.specs.Statement.{with_rows}
use Rattle.mq_ir.specs.Tables.{Tables}
use Rattle.mq_tables.specs.KeyOrder.{GrowsTo}
use Rattle.mq_tables.specs.Staging.{staging}

-- the tables after a change, and how many rows are counted: what is staged is committed
abbrev pub applied : Tables → Change → Result (Tables × ℕ) Refused
applied tables change = staging tables change >>= (λ s. Ok (with_rows tables s.table s.rows, s.counted))

-- rows at their places, in the place of those that stand there
abbrev pub put_at : List (ℕ × Tuple) → List Tuple → List Tuple
put_at [] rows = rows
put_at (put ∷ others) rows = slice_set (put_at others rows) put.0 put.1

-- those that are left of items that are told, place by place, whether they are gone
abbrev pub items_left : {A : Type 0} → List A → List Bool → List A
items_left items gone = map (λ item. item.0) (filter (λ item. not item.1) (zip items gone))

-- rows that are told, place by place, whether they are gone
abbrev pub rows_left : List Tuple → List Bool → List Tuple
rows_left rows gone = visited_as false (zip rows gone)

abbrev pub rows_gone : List Tuple → List Bool → List Tuple
rows_gone rows gone = visited_as true (zip rows gone)

-- Rows are put behind others, and their keys to those of the others; after want of memory the rows are as before.
abbrev pub PutsBehind : Schema → List Tuple → List Tuple → List Tuple → List Tuple → List Tuple → Result (Unit {0}) (Fail Refused) → Type 0
PutsBehind schema rows order new after keys (Ok done) = (after ≡ rows ++ new) × GrowsTo order (map (row_key schema) new) keys (Ok done)
PutsBehind schema rows order new after keys (Err (fail.Cause e)) = (after ≡ rows) × GrowsTo order (map (row_key schema) new) keys (Err (fail.Cause e))
PutsBehind schema rows order new after keys (Err fail.Memory) = after ≡ rows
