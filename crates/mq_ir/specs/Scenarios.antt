-- Scenarios: named changes over the tables as they stand, which they never alter.
use Rattle.std.specs.Prelude.{ℕ, List, [], ◌∷◌, ◌++◌, map, not, if◌then◌else◌, Result, Ok, Err}
use Rattle.std.specs.List.{enumerate_from, filter, find, flat_map}
use Rattle.std.specs.Option.{ok_or, option_map_or}
use Rattle.mq_values.specs.declared.faults.Refused.{Refused}
use Rattle.mq_values.specs.declared.faults.Refused.TheVariants as refused
use Rattle.mq_ir.specs.declared.catalog.Scenario.{Scenario}
use Rattle.mq_ir.specs.declared.query.BoundQuery.{BoundQuery}
use Rattle.mq_ir.specs.declared.query.Compared.{Compared}
use Rattle.mq_ir.specs.declared.query.Compared.TheVariants.{Shown, Stopped}
use Rattle.mq_ir.specs.declared.statement.Change.{Change}
use Rattle.mq_ir.specs.Answer.{answer_of}
use Rattle.mq_ir.specs.Lines.{Line, ScenarioLine, StoppedLine}
use Rattle.mq_ir.specs.Results.{◌>>=◌, each_in_turn, marked}
use Rattle.mq_ir.specs.Statement.{Printed, State, answer_lines, change_of_tables, view_at}
use Rattle.mq_ir.specs.Tables.{Tables, is_name}

-- the number of a change from 1, and why it is refused
abbrev pub Stop : Type 0
Stop = ℕ × Refused

-- the tables after a numbered change
abbrev pub numbered_change : ℕ × Change → Tables → Result Tables Stop
numbered_change (k, change) tables = marked (λ refusal. (k, refusal)) (change_of_tables tables change) >>= (λ changed. Ok changed.0)

-- the tables after these changes, one after another, or the first that is refused
abbrev pub tables_under : Tables → List Change → Result Tables Stop
tables_under tables changes = each_in_turn numbered_change (enumerate_from 1 changes) tables

-- what a query answers under these changes, or the first of them that is refused
abbrev pub compared : Tables → BoundQuery → List Change → Compared
compared tables query changes =
    elim (tables_under tables changes) [ Ok changed ↦ Shown (answer_of changed query) | Err stop ↦ Stopped stop.0 stop.1 ]

abbrev pub compared_lines : Compared → List Line
compared_lines (Shown answer) = answer_lines answer
compared_lines (Stopped k refusal) = StoppedLine k refusal ∷ []

-- the changes of the scenario of this name
abbrev pub changes_at : State → List ℕ → List Change
changes_at state name = option_map_or (λ s. s.changes) (find (λ s. is_name name s.name) state.scenarios) []

-- a scenario's line, and what a query answers under its changes
abbrev pub scenario_lines : State → BoundQuery → List ℕ → List Line
scenario_lines state query name = ScenarioLine name ∷ compared_lines (compared state.tables query (changes_at state name))

-- the named scenarios, in the order in which they are named
abbrev pub comparison : State → BoundQuery → List (List ℕ) → List Line
comparison state query names = flat_map (scenario_lines state query) names

abbrev pub compare_step : State → List ℕ → List (List ℕ) → Result Printed Refused
compare_step state view names =
    ok_or (view_at state view) (refused.UnknownName view) >>= (λ found. Ok (state, comparison state found.query names))

abbrev pub create_scenario : State → List ℕ → State
create_scenario state name = record state { scenarios = state.scenarios ++ record { name = name; changes = [] } ∷ [] }

abbrev pub drop_scenario : State → List ℕ → State
drop_scenario state name = record state { scenarios = filter (λ s. not (is_name name s.name)) state.scenarios }

-- a change at the end of a scenario's changes
abbrev pub add_change : State → List ℕ → Change → State
add_change state name change =
    record state {
      scenarios = map (λ (s : Scenario). if is_name name s.name then record s { changes = s.changes ++ change ∷ [] } else s) state.scenarios;
    }
