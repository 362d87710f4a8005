-- What a comparison says of a scenario.
use Rattle.std.specs.Prelude.{◌≡◌, ℕ, List, Bool, false, Result, Ok, Err}
use Rattle.std.specs.List.{enumerate_from}
use Rattle.mq_ir.specs.declared.query.BoundQuery.{BoundQuery}
use Rattle.mq_ir.specs.declared.query.Compared.{Compared}
use Rattle.mq_ir.specs.declared.query.Compared.TheVariants.{Shown, Stopped}
use Rattle.mq_ir.specs.declared.statement.Change.{Change}
use Rattle.mq_ir.specs.Answer.{answer_of}
use Rattle.mq_ir.specs.Results.{◌>>=◌, each_in_turn, marked}
use Rattle.mq_ir.specs.Scenarios.{Stop, add_change, compared, scenario_lines}
use Rattle.mq_ir.specs.Statement.{State, change_step}
use Rattle.mq_ir.specs.Tables.{is_name}

-- the session after a numbered change of its tables
abbrev pub session_step : ℕ × Change → State → Result State Stop
session_step (k, change) state = marked (λ refusal. (k, refusal)) (change_step state change) >>= (λ printed. Ok printed.0)

-- the session after these changes, one after another, or the first that is refused
abbrev pub session_under : State → List Change → Result State Stop
session_under state changes = each_in_turn session_step (enumerate_from 1 changes) state

abbrev pub answered : BoundQuery → Result State Stop → Compared
answered query (Ok state) = Shown (answer_of state.tables query)
answered query (Err stop) = Stopped stop.0 stop.1

-- What is said of a scenario is what a session says in which its changes were made.
abbrev pub ScenarioIsSession : State → BoundQuery → List Change → Type 0
ScenarioIsSession state query changes = compared state.tables query changes ≡ answered query (session_under state changes)

-- What is said of a scenario stays when another one takes a change in.
abbrev pub OthersPlayNoPart : State → BoundQuery → List ℕ → List ℕ → Change → Type 0
OthersPlayNoPart state query name other change =
    is_name name other ≡ false → scenario_lines (add_change state other change) query name ≡ scenario_lines state query name
