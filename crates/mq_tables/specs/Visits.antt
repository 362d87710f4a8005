-- The rows that UPDATE and DELETE visit as true.
use Rattle.std.specs.Prelude.{ℕ, List, Bool, true, if◌then◌else◌, map, Option, Some, None, Result, Ok}
use Rattle.std.specs.List.{enumerate_from, filter, zip}
use Rattle.mq_values.specs.declared.faults.Refused.{Refused}
use Rattle.mq_ir.specs.declared.expression.Expr.{Expr}
use Rattle.mq_ir.specs.declared.statement.Schema.{Schema}
use Rattle.mq_ir.specs.Changes.{Visited, deleted_row, row_key, updated_row, visited_as}
use Rattle.mq_ir.specs.Keys.{Tuple}
use Rattle.mq_ir.specs.Results.{◌>>=◌, each}
use Rattle.mq_tables.specs.declared.visits.Found.{Found}
use Rattle.mq_tables.specs.declared.visits.Gone.{Gone}

-- whether each row was visited as true
abbrev pub flags_of : List Visited → List Bool
flags_of visited = map (λ row. row.1) visited

-- the rows that were visited as true, as they stood, each with its place
abbrev pub taken : List Tuple → List Visited → List (ℕ × Tuple)
taken rows visited = map (λ row. (row.0, row.1.0)) (filter (λ row. row.1.1) (enumerate_from 0 (zip rows (flags_of visited))))

-- the same as they will be
abbrev pub replaced : List Visited → List (ℕ × Tuple)
replaced visited = map (λ row. (row.0, row.1.0)) (filter (λ row. row.1.1) (enumerate_from 0 visited))

abbrev pub found : List Tuple → List Visited → Found
found rows visited = record { puts = replaced visited; were = taken rows visited }

abbrev pub rows_found : Schema → List (ℕ × Expr) → Option Expr → List Tuple → Result Found Refused
rows_found schema sets filter rows = each (updated_row schema sets filter) (enumerate_from 1 rows) >>= (λ visited. Ok (found rows visited))

-- one of these, where it is visited as true
abbrev pub if_true : Visited → Option Tuple
if_true visited = if visited.1 then Some visited.0 else None

abbrev pub row_replaced : Schema → List (ℕ × Expr) → Option Expr → ℕ × Tuple → Result (Option Tuple) Refused
row_replaced schema sets filter row = updated_row schema sets filter row >>= (λ visited. Ok (if_true visited))

-- which rows DELETE visits as true, the keys of these, and these with their places
abbrev pub gone : Schema → List Tuple → List Visited → Gone
gone schema rows visited = record {
  flags = flags_of visited;
  keys = map (row_key schema) (visited_as true visited);
  rows = taken rows visited;
}

abbrev pub rows_taken : Schema → Option Expr → List Tuple → Result Gone Refused
rows_taken schema filter rows = each (deleted_row filter) (enumerate_from 1 rows) >>= (λ visited. Ok (gone schema rows visited))
