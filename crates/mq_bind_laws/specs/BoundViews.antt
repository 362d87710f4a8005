-- Views as they stand between statements: each has what some query is bound to.
use Rattle.std.specs.Prelude.{◌≡◌, ℕ, List, [], ◌∷◌, Ok, All}
use Rattle.mq_ast.specs.declared.queries.Query.{Query}
use Rattle.mq_ir.specs.declared.catalog.View.{View}
use Rattle.mq_ir.specs.Statement.{State}
use Rattle.mq_binder.specs.QueryWalk.{query_bound}
use Rattle.mq_engine.specs.Catalogs.{catalog_of}
use Rattle.mq_engine.specs.Sessions.{nothing}
use Rattle.mq_tool.specs.Loads.{FileMap}
use Rattle.mq_tool.specs.Script.{Read, statement_step}
use Rattle.mq_bind_laws.specs.StatementsBetween.{BlockKeepsColumns}

-- a view has what some query is bound to, over the tables as they stand now
abbrev pub IsBoundView : State → View → Type 0
IsBoundView state view = (q : Query) × (query_bound (catalog_of state) q ≡ Ok view.query)

abbrev pub ViewsAreBound : State → Type 0
ViewsAreBound state = All (IsBoundView state) state.views

-- So it stays, whatever statement comes.
abbrev pub ViewsStayBound : FileMap → State → ℕ × Read → Type 0
ViewsStayBound files state r = BlockKeepsColumns state → ViewsAreBound state → ViewsAreBound (statement_step files state r).0

-- the state after statements on their lines, one after another
abbrev pub state_after : FileMap → State → List (ℕ × Read) → State
state_after files state [] = state
state_after files state (r ∷ rs) = state_after files (statement_step files state r).0 rs

-- So it is in each state that a script comes to.
abbrev pub ScriptKeepsViewsBound : FileMap → List (ℕ × Read) → Type 0
ScriptKeepsViewsBound files script = ViewsAreBound (state_after files nothing script)
