-- What statements before a query change of its binding: nothing, but DROP TABLE.
use Rattle.std.specs.Prelude.{◌≡◌, ℕ, List, map, Bool, true, false, Ok}
use Rattle.std.specs.Option.{option_map_or}
use Rattle.mq_ast.specs.declared.queries.Query.{Query}
use Rattle.mq_ast.specs.declared.statements.Stmt.TheVariants as stmt
use Rattle.mq_ir.specs.declared.catalog.Catalog.{Catalog}
use Rattle.mq_ir.specs.declared.catalog.Scenario.{Scenario}
use Rattle.mq_ir.specs.declared.catalog.TableEntry.{TableEntry}
use Rattle.mq_ir.specs.declared.catalog.View.{View}
use Rattle.mq_ir.specs.declared.query.BoundQuery.{BoundQuery}
use Rattle.mq_ir.specs.Statement.{Block, State}
use Rattle.mq_ir.specs.Tables.{Tables}
use Rattle.mq_binder.specs.QueryWalk.{query_bound}
use Rattle.mq_engine.specs.Catalogs.{catalog_of, entry_of_table}
use Rattle.mq_tool.specs.Loads.{FileMap}
use Rattle.mq_tool.specs.Script.{Read, Tree, statement_step}

-- Views and scenarios are no names that a query may read.
abbrev pub QueryIgnoresViews : Catalog → List View → List Scenario → Query → Type 0
QueryIgnoresViews catalog views scenarios q =
    query_bound (record { tables = catalog.tables; views = views; scenarios = scenarios }) q ≡ query_bound catalog q

-- tables by their names and columns
abbrev pub entries : Tables → List TableEntry
entries = map entry_of_table

-- a block, where one is there, holds tables with the names and columns of those outside of it
abbrev pub BlockKeepsColumns : State → Type 0
BlockKeepsColumns state = option_map_or (λ (block : Block). entries block.pending) state.block (entries state.tables) ≡ entries state.tables

-- So it does after each statement.
abbrev pub BlockGoesOn : FileMap → State → ℕ × Read → Type 0
BlockGoesOn files state r = BlockKeepsColumns state → BlockKeepsColumns (statement_step files state r).0

abbrev pub drops_table : Read → Bool
drops_table (Tree (stmt.DropTable name)) = true
drops_table _ = false

-- A query that is bound is bound to the same after each statement but DROP TABLE, whether that was refused or not.
abbrev pub QueryOutlasts : FileMap → State → ℕ × Read → Query → BoundQuery → Type 0
QueryOutlasts files state r q b =
    drops_table r.1 ≡ false → BlockKeepsColumns state
    → query_bound (catalog_of state) q ≡ Ok b → query_bound (catalog_of (statement_step files state r).0) q ≡ Ok b
