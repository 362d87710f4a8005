-- What a bound statement needs of a session.
use Rattle.std.specs.Prelude.{◌≡◌, ⊤, ℕ, ◌<◌, false, List, length, None, Some}
use Rattle.std.specs.Option.{option_map}
use Rattle.mq_values.specs.declared.limits.TheConstants.{MAX_SCENARIO_CHANGES}
use Rattle.mq_ir.specs.declared.statement.Bound.{Bound}
use Rattle.mq_ir.specs.declared.statement.Bound.TheVariants as bound
use Rattle.mq_ir.specs.Names.{is_scenario, is_view}
use Rattle.mq_ir.specs.Ready.{QueryIsReady}
use Rattle.mq_ir.specs.Scenarios.{changes_at}
use Rattle.mq_ir.specs.Statement.{Block, State}
use Rattle.mq_ir.specs.Tables.{table_at}
use Rattle.mq_engine.specs.Catalogs.{catalog_of}

-- What the engine asks of a bound statement: a table, a view or a scenario is new, a query is ready, and a scenario has room for one
-- more change.
abbrev pub CanRun : State → Bound → Type 0
CanRun state (bound.CreateTable def) = table_at state.tables def.name ≡ None
CanRun state (bound.CreateView name query) = (is_view (catalog_of state) name ≡ false) × QueryIsReady query
CanRun state (bound.Query query) = QueryIsReady query
CanRun state (bound.CreateScenario name) = is_scenario (catalog_of state) name ≡ false
CanRun state (bound.Under name change) = length (changes_at state name) < MAX_SCENARIO_CHANGES
CanRun state _ = ⊤

-- the same of a statement that is no LOAD
abbrev pub CanTake : State → Bound → Type 0
CanTake state (bound.Load table file) = ⊥
CanTake state b = CanRun state b

-- and of one of which the engine keeps no part
abbrev pub CanLend : State → Bound → Type 0
CanLend state (bound.CreateTable def) = ⊥
CanLend state (bound.CreateView name query) = ⊥
CanLend state (bound.Load table file) = ⊥
CanLend state (bound.Under name change) = ⊥
CanLend state b = CanRun state b

abbrev pub IsLoadBound : Bound → Type 0
IsLoadBound b = (table : List ℕ) × (file : List ℕ) × (b ≡ bound.Load table file)

-- a block is there, whose BEGIN is on this line
abbrev pub BeganAt : State → ℕ → Type 0
BeganAt state line = option_map (λ (block : Block). block.line) state.block ≡ Some line
