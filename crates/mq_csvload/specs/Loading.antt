-- The rows of a table that the bytes of a CSV file hold, or the refusal of LOAD.
use Rattle.std.specs.Prelude.{ℕ, List, [], ◌∷◌, length, map, Bool, ◌==◌, if◌then◌else◌, Result, Err}
use Rattle.std.specs.Cmp.Lexicographic.{pointwise}
use Rattle.std.specs.List.{enumerate_from, zip}
use Rattle.std.specs.Option.{ok_or}
use Rattle.std.specs.Str.{bytes_eq}
use Rattle.csv.specs.Reading.{default_config, records, strip_bom}
use Rattle.mq_values.specs.declared.faults.Refused.{Refused}
use Rattle.mq_values.specs.declared.faults.Refused.TheVariants.{LoadHeader, LoadRow}
use Rattle.mq_values.specs.declared.value.Value.{Value}
use Rattle.mq_lexer.specs.Words.{folded}
use Rattle.mq_ir.specs.declared.statement.Column.{Column}
use Rattle.mq_ir.specs.declared.statement.Schema.{Schema}
use Rattle.mq_ir.specs.Partitions.{Tuple}
use Rattle.mq_ir.specs.Results.{each}
use Rattle.mq_csvload.specs.Fields.{Field, column_value}

-- the fields of a record
abbrev pub Fields : Type 0
Fields = List Field

-- the records of a file, without the byte order mark at its start: `csv` reads any bytes, and drops one mark itself
abbrev pub records_of : List ℕ → List Fields
records_of bytes = records default_config (strip_bom (strip_bom bytes))

-- the names of the columns in their order, whatever the case of their ASCII letters
abbrev pub is_header : List Column → Fields → Bool
is_header cols fields = pointwise bytes_eq (map (λ col. col.name) cols) (map folded fields)

-- a field of the record of this number, in its column
abbrev pub value_of : ℕ → Column × Field → Result Value Refused
value_of number (col, field) = ok_or (column_value col field) (LoadRow number)

-- a record is a row where it has a field for each column, and each of them holds a value of its column
abbrev pub row_of : List Column → ℕ × Fields → Result Tuple Refused
row_of cols (number, fields) =
    if length fields == length cols then each (value_of number) (zip cols fields) else Err (LoadRow number)

-- the first record is the header, and the others, numbered from 1, are rows
abbrev pub loaded : List Column → List Fields → Result (List Tuple) Refused
loaded cols [] = Err LoadHeader
loaded cols (header ∷ rest) = if is_header cols header then each (row_of cols) (enumerate_from 1 rest) else Err LoadHeader

abbrev pub rows_in : List ℕ → Schema → Result (List Tuple) Refused
rows_in bytes schema = loaded schema.cols (records_of bytes)
