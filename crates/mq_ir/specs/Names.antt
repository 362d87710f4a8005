-- The names of a catalog.
use Rattle.std.specs.Prelude.{ℕ, List, [], Bool, Option, ◌||◌, length, find}
use Rattle.std.specs.List.{list_any}
use Rattle.std.specs.Option.{option_and_then, option_map, option_map_or}
use Rattle.mq_ir.specs.declared.catalog.Catalog.{Catalog}
use Rattle.mq_ir.specs.declared.query.ModelPart.{ModelPart}
use Rattle.mq_ir.specs.declared.statement.Change.{Change}
use Rattle.mq_ir.specs.declared.statement.Schema.{Schema}
use Rattle.mq_ir.specs.Tables.{is_name}

-- the columns of the table of this name, where there is one
abbrev pub schema_of : Catalog → List ℕ → Option Schema
schema_of catalog name = option_map (λ entry. entry.schema) (find (λ entry. is_name entry.name name) catalog.tables)

abbrev pub is_table : Catalog → List ℕ → Bool
is_table catalog name = list_any (λ entry. is_name entry.name name) catalog.tables

abbrev pub is_view : Catalog → List ℕ → Bool
is_view catalog name = list_any (λ entry. is_name entry.name name) catalog.views

abbrev pub is_scenario : Catalog → List ℕ → Bool
is_scenario catalog name = list_any (λ entry. is_name entry.name name) catalog.scenarios

-- a name that is there already, as that of a table, a view or a scenario
abbrev pub is_taken : Catalog → List ℕ → Bool
is_taken catalog name = is_table catalog name || is_view catalog name || is_scenario catalog name

-- the columns of a FROM item; none where it is no table
abbrev pub width_of : Catalog → List ℕ → ℕ
width_of catalog name = option_map_or (λ schema. length schema.cols) (schema_of catalog name) 0

-- the MODEL clause of the view of this name, where there is such a view and it has one
abbrev pub model_of : Catalog → List ℕ → Option ModelPart
model_of catalog name = option_and_then (λ entry. entry.query.model) (find (λ entry. is_name entry.name name) catalog.views)

-- the changes of the scenario of this name, and how many there are
abbrev pub changes_of : Catalog → List ℕ → List Change
changes_of catalog name = option_map_or (λ entry. entry.changes) (find (λ entry. is_name entry.name name) catalog.scenarios) []

abbrev pub change_count : Catalog → List ℕ → ℕ
change_count catalog name = length (changes_of catalog name)
