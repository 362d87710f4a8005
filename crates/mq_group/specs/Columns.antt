-- Columns of base rows, and keys made of them.
use Rattle.std.specs.Prelude.{ℕ, List, [], Option, slice_get, slice_index_or, map}
use Rattle.mq_values.specs.declared.value.Value.{Value}
use Rattle.mq_ir.specs.declared.query.ColRef.{ColRef}
use Rattle.mq_ir.specs.Items.{BaseRow, group_key}
use Rattle.mq_ir.specs.Keys.{Tuple}

-- a column of a row of a FROM item, where it is there
abbrev pub column_in : BaseRow → ℕ → ℕ → Option Value
column_in row item column = slice_get (slice_index_or row item []) column

-- the keys of rows that are seen by their values
abbrev pub keys_in : {R : Type 0} → (R → BaseRow) → List ColRef → List R → List Tuple
keys_in values cols rows = map (λ row. group_key cols (values row)) rows
