-- What LOAD finds in a file.
use Rattle.std.specs.Prelude.{◌≡◌, ⊤, ℕ, List, length, nat_lt, if◌then◌else◌, Option, None, Result, Ok, Err}
use Rattle.std.specs.Option.{ok_or}
use Rattle.mq_values.specs.declared.faults.Refused.{Refused}
use Rattle.mq_values.specs.declared.faults.Refused.TheVariants as refused
use Rattle.mq_values.specs.declared.limits.TheConstants.{MAX_FILE_BYTES}
use Rattle.mq_ir.specs.declared.catalog.Catalog.{Catalog}
use Rattle.mq_ir.specs.declared.statement.Change.{Change}
use Rattle.mq_ir.specs.declared.statement.Change.TheVariants.{Append}
use Rattle.mq_ir.specs.Names.{schema_of}
use Rattle.mq_ir.specs.Partitions.{Tuple}
use Rattle.mq_ir.specs.Results.{◌>>=◌}
use Rattle.mq_ir.specs.Tables.{Tables, table_at}
use Rattle.mq_csvload.specs.Loading.{rows_in}
use Rattle.mq_tool.specs.declared.stops.Stop.{Stop}
use Rattle.mq_tool.specs.declared.stops.Stop.TheVariants as stop

-- the bytes of files, by their names
abbrev pub FileMap : Type 0
FileMap = List ℕ → Option (List ℕ)

-- no file has any name
abbrev pub no_files : FileMap
no_files name = None

-- the bytes of a file that is not too long
abbrev pub file_bytes : FileMap → List ℕ → Result (List ℕ) Refused
file_bytes files name =
    ok_or (files name) refused.NoFile >>= (λ bytes. if nat_lt MAX_FILE_BYTES (length bytes) then Err refused.FileTooLong else Ok bytes)

-- the change that a LOAD is: the rows of the file, behind those of the table
abbrev pub load_change : FileMap → Tables → List ℕ → List ℕ → Result Change Refused
load_change files tables name file =
    ok_or (table_at tables name) (refused.UnknownName name) >>= (λ table.
    file_bytes files file >>= (λ bytes.
    rows_in bytes table.schema >>= (λ rows. Ok (Append name rows))))

-- the rows that a file holds for the table of this name in a catalog, or why there are none
abbrev pub rows_of_file : FileMap → Catalog → List ℕ → List ℕ → Result (List Tuple) Refused
rows_of_file files catalog table file =
    ok_or (schema_of catalog table) (refused.UnknownName table) >>= (λ schema.
    file_bytes files file >>= (λ bytes. rows_in bytes schema))

-- a call gave what is meant, unless the shelf failed or memory ran out
abbrev pub Found : {T : Type 0} → Result T Stop → Result T Refused → Type 0
Found (Ok x) meant = meant ≡ Ok x
Found (Err (stop.Refused refusal)) meant = meant ≡ Err refusal
Found (Err _) meant = ⊤
