-- Statements over scenarios fit the catalog.
use Rattle.std.proofs.Common.{◌≡◌, List, [], ◌∷◌, length, true, not, ◌&&◌, Result, Ok, ap, subst, arith}
use Rattle.std.specs.Prelude.{nat_le, nat_lt}
use Rattle.std.specs.List.{list_all}
use Rattle.std.proofs.lemmas.Bool.Decides.{nat_tests}
use Rattle.mq_lexer.specs.Words.{folded}
use Rattle.mq_values.specs.declared.faults.Refused.{Refused}
use Rattle.mq_values.specs.declared.limits.TheConstants.{MAX_COMPARED, MAX_SCENARIO_CHANGES, MAX_SCENARIOS}
use Rattle.mq_ast.specs.declared.statements.ChangeTree.{ChangeTree}
use Rattle.mq_ir.specs.declared.catalog.Catalog.{Catalog}
use Rattle.mq_ir.specs.declared.limit_numbers.TheConstants.{LIMIT_OF_COMPARED, LIMIT_OF_SCENARIO_CHANGES, LIMIT_OF_SCENARIOS}
use Rattle.mq_ir.specs.declared.statement.Bound.{Bound}
use Rattle.mq_ir.specs.declared.statement.Bound.TheVariants as bound
use Rattle.mq_ir.specs.FitsStatement.{change_fits, fits}
use Rattle.mq_ir.specs.Names.{change_count, is_scenario, is_taken, is_view}
use Rattle.mq_ir.specs.Results.{◌>>=◌, each}
use Rattle.mq_bind_scopes.specs.Names.{Name}
use Rattle.mq_bind_scopes.specs.Refusals.{duplicate_name, limit, refused_where, unknown_name}
use Rattle.mq_binder.specs.ChangeWalk.{change_bound}
use Rattle.mq_binder.specs.ListWalk.{limited}
use Rattle.mq_binder.specs.ScenarioWalk.{comparison_bound, known_scenario, known_view, scenario_created, scenario_dropped, scenario_named, scenarios_named, taken_in, under_bound}
use Rattle.mq_binder.specs.StatementLiterals.{change_literals}
use Rattle.mq_binder.specs.WithinLimits.{columns_within}
use Rattle.mq_binder.proofs.ChangeLemmas.{change_fit}
use Rattle.mq_binder.proofs.ReferenceLemmas.{limited_is}
use Rattle.mq_binder.proofs.FitStepLemmas.{Each, all_each, both, each_gives, ok_is, passed, was_not, went}

abbrev FitsNow : Catalog → Bound → Type 0
FitsNow catalog b = fits catalog b ≡ true

-- ---- names of scenarios and views
scenario_is : {A : Type 0} (catalog : Catalog) (name : Name) (next : Result A Refused) (x : A) → known_scenario catalog name next ≡ Ok x → (is_scenario catalog name ≡ true) × (next ≡ Ok x)
scenario_is catalog name next x h =
    let p = passed (not (is_scenario catalog name)) (unknown_name name) next x h in
    (was_not (is_scenario catalog name) p.holds_not, p.after)

pub view_is : {A : Type 0} (catalog : Catalog) (name : Name) (next : Result A Refused) (x : A) → known_view catalog name next ≡ Ok x → (is_view catalog name ≡ true) × (next ≡ Ok x)
view_is catalog name next x h =
    let p = passed (not (is_view catalog name)) (unknown_name name) next x h in
    (was_not (is_view catalog name) p.holds_not, p.after)

-- ---- CREATE SCENARIO and DROP SCENARIO
pub creation_fits : (catalog : Catalog) (name : Name) (b : Bound) → scenario_created catalog name ≡ Ok b → fits catalog b ≡ true
creation_fits catalog name b h =
    let made : Result Bound Refused = Ok (bound.CreateScenario name) in
    let p = passed (is_taken catalog name) (duplicate_name name) (refused_where (nat_le MAX_SCENARIOS (length catalog.scenarios)) (limit LIMIT_OF_SCENARIOS) made) b h in
    let r = passed (nat_le MAX_SCENARIOS (length catalog.scenarios)) (limit LIMIT_OF_SCENARIOS) made b p.after in
    let t : nat_lt (length catalog.scenarios) MAX_SCENARIOS ≡ true = (let k = r.holds_not in grind (arith, nat_tests)) in
    let n : not (is_taken catalog name) ≡ true = ap not p.holds_not in
    subst (FitsNow catalog) (ok_is (bound.CreateScenario name) b r.after) (both (not (is_taken catalog name)) (nat_lt (length catalog.scenarios) MAX_SCENARIOS) n t)

pub drop_fits : (catalog : Catalog) (name : Name) (b : Bound) → scenario_dropped catalog name ≡ Ok b → fits catalog b ≡ true
drop_fits catalog name b h =
    let s = scenario_is catalog name (Ok (bound.DropScenario name)) b h in
    subst (FitsNow catalog) (ok_is (bound.DropScenario name) b s.1) s.0

-- ---- UNDER
pub under_fits_catalog : (catalog : Catalog) → columns_within catalog ≡ true → (scenario : Name) (tree : ChangeTree) → change_literals tree ≡ true → (b : Bound) → under_bound catalog scenario tree ≡ Ok b → fits catalog b ≡ true
under_fits_catalog catalog within scenario tree lit b h =
    let s = scenario_is catalog scenario (change_bound catalog tree >>= taken_in catalog scenario) b h in
    let w = went (change_bound catalog tree) (taken_in catalog scenario) b s.1 in
    let p = passed (nat_le MAX_SCENARIO_CHANGES (change_count catalog scenario)) (limit LIMIT_OF_SCENARIO_CHANGES) (Ok (bound.Under scenario w.value)) b w.after in
    let few : nat_lt (change_count catalog scenario) MAX_SCENARIO_CHANGES ≡ true = (let k = p.holds_not in grind (arith, nat_tests)) in
    let front = both (is_scenario catalog scenario) (change_fits catalog w.value) s.0 (change_fit catalog within tree lit w.value w.first) in
    subst (FitsNow catalog) (ok_is (bound.Under scenario w.value) b p.after)
    (both (is_scenario catalog scenario && change_fits catalog w.value) (nat_lt (change_count catalog scenario) MAX_SCENARIO_CHANGES) front few)

-- ---- COMPARE
anything : {A : Type 0} (xs : List A) → Each (λ (x : A). Unit {0}) xs
anything [] = tt
anything (x ∷ xs) = (tt, anything xs)

name_stands : (catalog : Catalog) (name : Name) → Unit {0} → (y : Name) → scenario_named catalog name ≡ Ok y → is_scenario catalog y ≡ true
name_stands catalog name q y h =
    let s = scenario_is catalog (folded name) (Ok (folded name)) y h in
    subst (λ (n : Name). is_scenario catalog n ≡ true) (ok_is (folded name) y s.1) s.0

pub comparison_fits_catalog : (catalog : Catalog) (view : Name) (names : List Name) (b : Bound) → comparison_bound catalog view names ≡ Ok b → fits catalog b ≡ true
comparison_fits_catalog catalog view names b h =
    let v = view_is catalog view (scenarios_named catalog names >>= (λ scenarios. Ok (bound.Compare view scenarios))) b h in
    let w = went (scenarios_named catalog names) (λ scenarios. Ok (bound.Compare view scenarios)) b v.1 in
    let u = went (each (scenario_named catalog) names) (limited MAX_COMPARED LIMIT_OF_COMPARED) w.value w.first in
    let few = limited_is MAX_COMPARED LIMIT_OF_COMPARED u.value w.value u.after in
    let all =
    all_each (is_scenario catalog) u.value
    (each_gives (scenario_named catalog) (λ (n : Name). Unit {0}) (λ (n : Name). is_scenario catalog n ≡ true) (name_stands catalog) names u.value (anything names) u.first) in
    let named = subst (λ (ns : List Name). list_all (is_scenario catalog) ns ≡ true) few.0 all in
    let front = both (is_view catalog view) (list_all (is_scenario catalog) w.value) v.0 named in
    subst (FitsNow catalog) (ok_is (bound.Compare view w.value) b w.after)
    (both (is_view catalog view && list_all (is_scenario catalog) w.value) (nat_le (length w.value) MAX_COMPARED) front few.1)
