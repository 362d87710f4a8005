-- Scenarios: CREATE SCENARIO, DROP SCENARIO, UNDER and COMPARE.
use Rattle.std.specs.Prelude.{List, length, not, nat_le, Result, Ok}
use Rattle.mq_lexer.specs.Words.{folded}
use Rattle.mq_values.specs.declared.faults.Refused.{Refused}
use Rattle.mq_values.specs.declared.limits.TheConstants.{MAX_COMPARED, MAX_SCENARIO_CHANGES, MAX_SCENARIOS}
use Rattle.mq_ast.specs.declared.statements.ChangeTree.{ChangeTree}
use Rattle.mq_ir.specs.declared.catalog.Catalog.{Catalog}
use Rattle.mq_ir.specs.declared.limit_numbers.TheConstants.{LIMIT_OF_COMPARED, LIMIT_OF_SCENARIO_CHANGES, LIMIT_OF_SCENARIOS}
use Rattle.mq_ir.specs.declared.statement.Bound.{Bound}
use Rattle.mq_ir.specs.declared.statement.Bound.TheVariants as bound
use Rattle.mq_ir.specs.declared.statement.Change.{Change}
use Rattle.mq_ir.specs.Names.{change_count, is_scenario, is_view}
use Rattle.mq_ir.specs.Results.{◌>>=◌, each}
use Rattle.mq_binder.specs.ChangeWalk.{change_bound}
use Rattle.mq_binder.specs.ListWalk.{limited}
use Rattle.mq_bind_scopes.specs.Names.{Name}
use Rattle.mq_bind_scopes.specs.Refusals.{limit, refused_where, unknown_name}
use Rattle.mq_binder.specs.TableWalk.{new_name}

-- what comes behind the name of a scenario that is there, and behind that of a view
abbrev pub known_scenario : {A : Type 0} → Catalog → Name → Result A Refused → Result A Refused
known_scenario catalog name next = refused_where (not (is_scenario catalog name)) (unknown_name name) next

abbrev pub known_view : {A : Type 0} → Catalog → Name → Result A Refused → Result A Refused
known_view catalog name next = refused_where (not (is_view catalog name)) (unknown_name name) next

-- CREATE SCENARIO: the name, and the number of scenarios
abbrev pub scenario_created : Catalog → Name → Result Bound Refused
scenario_created catalog name =
    new_name catalog name (
    refused_where (nat_le MAX_SCENARIOS (length catalog.scenarios)) (limit LIMIT_OF_SCENARIOS) (Ok (bound.CreateScenario name)))

abbrev pub scenario_dropped : Catalog → Name → Result Bound Refused
scenario_dropped catalog name = known_scenario catalog name (Ok (bound.DropScenario name))

-- UNDER: the scenario, the change by itself, and the number of the scenario's changes
abbrev pub taken_in : Catalog → Name → Change → Result Bound Refused
taken_in catalog scenario c =
    refused_where (nat_le MAX_SCENARIO_CHANGES (change_count catalog scenario)) (limit LIMIT_OF_SCENARIO_CHANGES) (
    Ok (bound.Under scenario c))

abbrev pub under_bound : Catalog → Name → ChangeTree → Result Bound Refused
under_bound catalog scenario tree = known_scenario catalog scenario (change_bound catalog tree >>= taken_in catalog scenario)

-- COMPARE: the view, the scenarios from left to right, and their number; one may be named twice
abbrev pub scenario_named : Catalog → Name → Result Name Refused
scenario_named catalog name = known_scenario catalog (folded name) (Ok (folded name))

abbrev pub scenarios_named : Catalog → List Name → Result (List Name) Refused
scenarios_named catalog names = each (scenario_named catalog) names >>= limited MAX_COMPARED LIMIT_OF_COMPARED

abbrev pub comparison_bound : Catalog → Name → List Name → Result Bound Refused
comparison_bound catalog view names =
    known_view catalog view (scenarios_named catalog names >>= (λ scenarios. Ok (bound.Compare view scenarios)))
