-- What stands in a session: its tables, and the catalog under which statements are bound.
use Rattle.std.specs.Prelude.{ℕ, List, map, Option, Some, None}
use Rattle.std.specs.Option.{option_map, option_map_or}
use Rattle.mq_ir.specs.declared.catalog.Catalog.{Catalog}
use Rattle.mq_ir.specs.declared.catalog.TableEntry.{TableEntry}
use Rattle.mq_ir.specs.Statement.{State, first_changer, first_reader}
use Rattle.mq_ir.specs.Tables.{Table, Tables}

abbrev pub entry_of_table : Table → TableEntry
entry_of_table t = record { name = t.name; schema = t.schema }

-- the tables without their rows, and the views and scenarios as they stand
abbrev pub catalog_of : State → Catalog
catalog_of state = record { tables = map entry_of_table state.tables; views = state.views; scenarios = state.scenarios }

-- the state outside of a block: the tables with their rows, and the views and scenarios of the catalog
abbrev pub state_of : Tables → Catalog → State
state_of tables catalog = record { tables = tables; views = catalog.views; scenarios = catalog.scenarios; block = None }

-- the name of what uses a table: of the first view that reads it, or else of the first scenario that changes it
abbrev pub user_of : Catalog → List ℕ → Option (List ℕ)
user_of catalog table =
    let changer = option_map (λ s. s.name) (first_changer catalog.scenarios table) in
    option_map_or (λ view. Some view.name) (first_reader catalog.views table) changer
