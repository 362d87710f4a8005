-- The tables as they stand between two statements.
use Rattle.std.specs.Prelude.{ℕ, List, [], Option, nat_eq, Bool}
use Rattle.std.specs.Cmp.Lexicographic.{pointwise}
use Rattle.std.specs.List.{find}
use Rattle.std.specs.Option.{option_map_or}
use Rattle.mq_ir.specs.declared.statement.Schema.{Schema}
use Rattle.mq_ir.specs.Partitions.{Tuple}

-- a table: its rows are in order of insertion, and an update keeps the place of a row
pub record Table : Type 0 where
  pub name : List ℕ
  pub schema : Schema
  pub rows : List Tuple

-- the tables in order of creation
abbrev pub Tables : Type 0
Tables = List Table

abbrev pub is_name : List ℕ → List ℕ → Bool
is_name a b = pointwise nat_eq a b

-- the table of this name, where there is one
abbrev pub table_at : Tables → List ℕ → Option Table
table_at tables name = find (λ t. is_name name t.name) tables

-- its rows; none where there is no such table
abbrev pub rows_of : Tables → List ℕ → List Tuple
rows_of tables name = option_map_or (λ (t : Table). t.rows) (table_at tables name) []
