-- What is asked of a catalog, that what is bound under it fits it, holds of the catalog of each state that a script comes to.
use Rattle.std.specs.Prelude.{◌≡◌, ℕ, List, true}
use Rattle.mq_ir.specs.Statement.{State}
use Rattle.mq_binder.specs.WithinLimits.{columns_within, measures_named}
use Rattle.mq_engine.specs.Catalogs.{catalog_of}
use Rattle.mq_engine.specs.Sessions.{nothing}
use Rattle.mq_tool.specs.Loads.{FileMap}
use Rattle.mq_tool.specs.Script.{Read, statement_step}
use Rattle.mq_bind_laws.specs.BoundViews.{ViewsAreBound, state_after}
use Rattle.mq_bind_laws.specs.StatementsBetween.{BlockKeepsColumns}

-- Columns stay within the limit of scales: a table that is created fits, and no other statement makes a column.
abbrev pub ColumnsStayWithin : FileMap → State → ℕ × Read → Type 0
ColumnsStayWithin files state r =
    BlockKeepsColumns state → columns_within (catalog_of state) ≡ true
    → columns_within (catalog_of (statement_step files state r).0) ≡ true

-- The models of views that queries are bound to have a name for each measure.
abbrev pub ViewsNameMeasures : State → Type 0
ViewsNameMeasures state = ViewsAreBound state → measures_named (catalog_of state) ≡ true

-- So both hold in each state that a script comes to.
abbrev pub ScriptKeepsCatalog : FileMap → List (ℕ × Read) → Type 0
ScriptKeepsCatalog files script =
    (columns_within (catalog_of (state_after files nothing script)) ≡ true)
    × (measures_named (catalog_of (state_after files nothing script)) ≡ true)
