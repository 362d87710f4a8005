-- Rows that are lent.
use Rattle.std.specs.Prelude.{ℕ, List, Option, slice_get}
use Rattle.std.specs.Option.{option_map}
use Rattle.mq_ir.specs.Keys.{Tuple}
use Rattle.mq_ir.specs.Tables.{Table, Tables, rows_of, table_at}

-- the rows of the table of this name, where there is one
abbrev pub rows_at : Tables → List ℕ → Option (List Tuple)
rows_at tables name = option_map (λ (t : Table). t.rows) (table_at tables name)

-- the row at this place of the table of this name, counted from 0, where there is one
abbrev pub row_at : Tables → List ℕ → ℕ → Option Tuple
row_at tables name place = slice_get (rows_of tables name) place
