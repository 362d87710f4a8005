-- What is known of a state by the names in it.
use Rattle.std.proofs.Common.{◌≡◌, ℕ, ◌<◌, List, [], ◌∷◌, Bool, true, false, ◌||◌, cond, length, map, Option, Some, None, Result, Err, refl, ap, ◌∙◌, arith}
use Rattle.std.specs.List.{list_any}
use Rattle.std.specs.Option.{ok_or, option_map_or}
use Rattle.std.specs.Prelude.{find, if◌then◌else◌, nat_le}
use Rattle.std.proofs.lemmas.Bool.Decides.{nat_tests}
use Rattle.std.proofs.lemmas.Cmp.{nat_list_eq_equiv}
use Rattle.mq_values.specs.declared.faults.Refused.{Refused}
use Rattle.mq_values.specs.declared.limits.TheConstants.{MAX_SCENARIO_CHANGES}
use Rattle.mq_ir.specs.declared.catalog.Catalog.{Catalog}
use Rattle.mq_ir.specs.declared.catalog.Scenario.{Scenario}
use Rattle.mq_ir.specs.declared.catalog.TableEntry.{TableEntry}
use Rattle.mq_ir.specs.declared.catalog.View.{View}
use Rattle.mq_ir.specs.declared.statement.Change.{Change}
use Rattle.mq_ir.specs.Names.{change_count, changes_of, is_scenario, is_table, is_taken, is_view}
use Rattle.mq_ir.specs.Results.{◌>>=◌}
use Rattle.mq_ir.specs.Scenarios.{changes_at}
use Rattle.mq_ir.specs.Statement.{Printed, State}
use Rattle.mq_ir.specs.Tables.{Tables, is_name, table_at}
use Rattle.mq_engine.specs.Catalogs.{catalog_of, entry_of_table}

neither : (a b : Bool) → (a || b) ≡ false → a ≡ false
neither true b h = absurd cc
neither false b h = refl

either : (a b : Bool) → (a || b) ≡ false → b ≡ false
either true b h = absurd cc
either false b h = h

none_named : (tables : Tables) (name : List ℕ)
    → list_any (λ (entry : TableEntry). is_name entry.name name) (map entry_of_table tables) ≡ false → table_at tables name ≡ None
none_named [] name h = refl
none_named (t ∷ ts) name h =
    ap (λ b. cond b (Some t) (table_at ts name)) (nat_list_eq_equiv.symm name t.name)
    ∙ by (is_name t.name name) (none_named ts name) h
  where
    by : (b : Bool) → (list_any (λ (entry : TableEntry). is_name entry.name name) (map entry_of_table ts) ≡ false → table_at ts name ≡ None)
        → (b || list_any (λ (entry : TableEntry). is_name entry.name name) (map entry_of_table ts)) ≡ false → cond b (Some t) (table_at ts name) ≡ None
    by true k g = absurd cc
    by false k g = k g

no_table : (catalog : Catalog) (name : List ℕ) → is_taken catalog name ≡ false → is_table catalog name ≡ false
no_table catalog name h =
    neither (is_table catalog name) (is_view catalog name) (neither (is_table catalog name || is_view catalog name) (is_scenario catalog name) h)

-- a name that is not taken is the name of no table
pub not_there : (state : State) (name : List ℕ) → is_taken (catalog_of state) name ≡ false → table_at state.tables name ≡ None
not_there state name h = none_named state.tables name (no_table (catalog_of state) name h)

-- or of no view
pub no_view : (catalog : Catalog) (name : List ℕ) → is_taken catalog name ≡ false → is_view catalog name ≡ false
no_view catalog name h =
    either (is_table catalog name) (is_view catalog name) (neither (is_table catalog name || is_view catalog name) (is_scenario catalog name) h)

-- or of no scenario
pub no_scenario : (catalog : Catalog) (name : List ℕ) → is_taken catalog name ≡ false → is_scenario catalog name ≡ false
no_scenario catalog name h = either (is_table catalog name || is_view catalog name) (is_scenario catalog name) h

-- what goes by a name, whichever way the names are compared
pub same_found : {A : Type 0} (name_of : A → List ℕ) (xs : List A) (name : List ℕ) → find (λ x. is_name name (name_of x)) xs ≡ find (λ x. is_name (name_of x) name) xs
same_found name_of [] name = refl
same_found name_of (x ∷ xs) name =
    ap (λ b. cond b (Some x) (find (λ x. is_name name (name_of x)) xs)) (nat_list_eq_equiv.symm name (name_of x))
    ∙ ap (λ o. cond (is_name (name_of x) name) (Some x) o) (same_found name_of xs name)

fewer : (m n : ℕ) → nat_le m n ≡ false → n < m
fewer m n h = grind (arith, nat_tests)

-- a scenario that does not have as many changes as it may have has fewer
pub has_room : (state : State) (name : List ℕ) → nat_le MAX_SCENARIO_CHANGES (change_count (catalog_of state) name) ≡ false
    → length (changes_at state name) < MAX_SCENARIO_CHANGES
has_room state name h =
    let same : changes_at state name ≡ changes_of (catalog_of state) name =
    ap (λ (o : Option Scenario). option_map_or (λ (s : Scenario). s.changes) o []) (same_found (λ (s : Scenario). s.name) state.scenarios name) in
    fewer MAX_SCENARIO_CHANGES (length (changes_at state name)) (ap (λ (cs : List Change). nat_le MAX_SCENARIO_CHANGES (length cs)) same ∙ h)

-- SHOW in a block: that there is no such view comes first
pub show_refused : (vs : List View) (name : List ℕ) (unknown : Refused) (there : Result Printed Refused)
    → (ok_or (find (λ (view : View). is_name name view.name) vs) unknown >>= (λ view. there))
    ≡ (if list_any (λ (view : View). is_name view.name name) vs then there else Err unknown)
show_refused [] name unknown there = refl
show_refused (v ∷ vs) name unknown there =
    ap (λ b. ok_or (cond b (Some v) (find (λ (view : View). is_name name view.name) vs)) unknown >>= (λ view. there)) (nat_list_eq_equiv.symm name v.name)
    ∙ by (is_name v.name name) (show_refused vs name unknown there)
  where
    by : (b : Bool)
        → (ok_or (find (λ (view : View). is_name name view.name) vs) unknown >>= (λ view. there))
        ≡ (if list_any (λ (view : View). is_name view.name name) vs then there else Err unknown)
        → (ok_or (cond b (Some v) (find (λ (view : View). is_name name view.name) vs)) unknown >>= (λ view. there))
        ≡ (if b || list_any (λ (view : View). is_name view.name name) vs then there else Err unknown)
    by true h = refl
    by false h = h
