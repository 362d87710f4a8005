-- CREATE TABLE: the name, the columns, the key; the limits in their places.
use Rattle.std.specs.Prelude.{ℕ, List, [], length, map, not, ◌||◌, ◌==◌, nat_lt, nat_le, Result, Ok, position}
use Rattle.std.specs.List.{enumerate_from, list_any}
use Rattle.std.specs.Option.{ok_or}
use Rattle.mq_lexer.specs.Words.{folded}
use Rattle.mq_values.specs.declared.faults.Refused.{Refused}
use Rattle.mq_values.specs.declared.limits.TheConstants.{MAX_COLUMNS, MAX_TABLES}
use Rattle.mq_ast.specs.declared.statements.ColDef.{ColDef}
use Rattle.mq_ir.specs.declared.catalog.Catalog.{Catalog}
use Rattle.mq_ir.specs.declared.limit_numbers.TheConstants.{LIMIT_OF_COLUMNS, LIMIT_OF_SCALE, LIMIT_OF_TABLES}
use Rattle.mq_ir.specs.declared.statement.Column.{Column}
use Rattle.mq_ir.specs.declared.statement.Schema.{Schema}
use Rattle.mq_ir.specs.declared.statement.TableDef.{TableDef}
use Rattle.mq_ir.specs.FitsExpression.{kind_fits}
use Rattle.mq_ir.specs.Names.{is_taken}
use Rattle.mq_ir.specs.Results.{◌>>=◌}
use Rattle.mq_ir.specs.Tables.{is_name}
use Rattle.mq_bind_scopes.specs.Names.{Name}
use Rattle.mq_bind_expr.specs.Steps.{each_behind}
use Rattle.mq_bind_scopes.specs.Refusals.{duplicate_name, limit, refused_where, unknown_name}

-- a name that is new to the catalog
abbrev pub new_name : {A : Type 0} → Catalog → Name → Result A Refused → Result A Refused
new_name catalog name next = refused_where (is_taken catalog name) (duplicate_name name) next

-- a column behind columns of these names: its name is new, and its scale within the limit
abbrev pub column_of : List Name → ColDef → Result Column Refused
column_of taken c =
    refused_where (list_any (is_name (folded c.name)) taken) (duplicate_name (folded c.name)) (
    refused_where (not (kind_fits c.kind)) (limit LIMIT_OF_SCALE) (
    Ok (record { name = folded c.name; kind = c.kind; not_null = c.not_null })))

abbrev pub columns_of : List ColDef → Result (List Column) Refused
columns_of = each_behind column_of (λ (c : Column). c.name) []

-- the number of the column of a name
abbrev pub column_called : List Column → Name → Result ℕ Refused
column_called columns name = ok_or (position (λ (c : Column). is_name name c.name) columns) (unknown_name name)

-- a column by its name, which is new behind these columns
abbrev pub new_column : List Column → List ℕ → Name → Result ℕ Refused
new_column columns taken name =
    column_called columns (folded name) >>= (λ n.
    refused_where (list_any (λ m. m == n) taken) (duplicate_name (folded name)) (Ok n))

abbrev pub columns_named : List Column → List Name → Result (List ℕ) Refused
columns_named columns = each_behind (new_column columns) (λ n. n) []

-- the columns of the key are NOT NULL
abbrev pub with_key : List ℕ → ℕ × Column → Column
with_key key p = record { name = p.1.name; kind = p.1.kind; not_null = p.1.not_null || list_any (λ m. m == p.0) key }

abbrev pub schema_with : List Column → List ℕ → Schema
schema_with columns key = record { cols = map (with_key key) (enumerate_from 0 columns); key = key }

abbrev pub table_bound : Catalog → Name → List ColDef → List Name → Result TableDef Refused
table_bound catalog name cols key =
    new_name catalog name (
    refused_where (nat_le MAX_TABLES (length catalog.tables)) (limit LIMIT_OF_TABLES) (
    columns_of cols >>= (λ columns.
    refused_where (nat_lt MAX_COLUMNS (length columns)) (limit LIMIT_OF_COLUMNS) (
    columns_named columns key >>= (λ numbers. Ok (record { name = name; schema = schema_with columns numbers }))))))
