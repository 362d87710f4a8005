-- The scenarios of a session.
use Rattle.std.specs.Prelude.{◌≡◌, ℕ, ◌≤◌, ◌++◌, List, [], ◌∷◌, false, length, map, if◌then◌else◌}
use Rattle.std.specs.List.{All, find, list_any}
use Rattle.std.specs.Option.{option_map_or}
use Rattle.mq_values.specs.declared.limits.TheConstants.{MAX_SCENARIO_CHANGES}
use Rattle.mq_ir.specs.declared.catalog.Scenario.{Scenario}
use Rattle.mq_ir.specs.declared.statement.Change.{Change}
use Rattle.mq_ir.specs.Tables.{is_name}

-- no two scenarios have one name
abbrev pub HaveOwnNames : List Scenario → Type 0
HaveOwnNames [] = Unit {0}
HaveOwnNames (s ∷ ss) = (list_any (λ (other : Scenario). is_name s.name other.name) ss ≡ false) × HaveOwnNames ss

-- a scenario has no more changes than one may have
abbrev pub IsBounded : Scenario → Type 0
IsBounded s = length s.changes ≤ MAX_SCENARIO_CHANGES

-- what holds of the scenarios of a session at all times
pub record MayStand (scenarios : List Scenario) : Type 0 where
  pub own : HaveOwnNames scenarios
  pub bounded : All IsBounded scenarios

-- the changes of the scenario of a name; none where there is none
abbrev pub changes_under : List Scenario → List ℕ → List Change
changes_under scenarios name = option_map_or (λ (s : Scenario). s.changes) (find (λ (s : Scenario). is_name name s.name) scenarios) []

-- a change at the end of the changes of the scenario of a name
abbrev pub longer : List ℕ → Change → Scenario → Scenario
longer name change s = if is_name name s.name then record s { changes = s.changes ++ change ∷ [] } else s

abbrev pub with_change : List Scenario → List ℕ → Change → List Scenario
with_change scenarios name change = map (longer name change) scenarios
