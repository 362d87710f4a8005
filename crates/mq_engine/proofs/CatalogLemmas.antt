-- The names of tables and views, and what holds of a name that is not there.
use Rattle.std.proofs.Common.{◌≡◌, ℕ, List, [], ◌∷◌, ◌++◌, Bool, true, false, ◌||◌, cond, not, map, Some, None, refl, ap, ◌∙◌}
use Rattle.std.specs.Prelude.{if◌then◌else◌}
use Rattle.std.specs.List.{filter, find}
use Rattle.std.proofs.lemmas.Cmp.{nat_list_eq_equiv}
use Rattle.mq_ir.specs.declared.catalog.TableEntry.{TableEntry}
use Rattle.mq_ir.specs.declared.catalog.View.{View}
use Rattle.mq_ir.specs.NamedItems.{has_name, item_of}
use Rattle.mq_ir.specs.Partitions.{Tuple}
use Rattle.mq_ir.specs.Statement.{with_rows}
use Rattle.mq_ir.specs.Tables.{Table, Tables, is_name, table_at}
use Rattle.mq_engine.specs.Catalogs.{entry_of_table}
use Rattle.mq_engine.proofs.ListLemmas.{taken_back}

-- a change of rows keeps the names
pub entries_changed : (tables : Tables) (name : List ℕ) (rows : List Tuple) → map entry_of_table (with_rows tables name rows) ≡ map entry_of_table tables
entries_changed [] name rows = refl
entries_changed (t ∷ ts) name rows = by (is_name name t.name) (entries_changed ts name rows)
  where
    by : (b : Bool) → map entry_of_table (with_rows ts name rows) ≡ map entry_of_table ts
        → entry_of_table (if b then record t { rows = rows } else t) ∷ map entry_of_table (with_rows ts name rows) ≡ entry_of_table t ∷ map entry_of_table ts
    by true h = ap (λ es. entry_of_table t ∷ es) h
    by false h = ap (λ es. entry_of_table t ∷ es) h

-- no entry has a name that no table has
pub no_table_entry : (tables : Tables) (name : List ℕ) → table_at tables name ≡ None → has_name (λ (entry : TableEntry). entry.name) (map entry_of_table tables) name ≡ false
no_table_entry [] name h = refl
no_table_entry (t ∷ ts) name h =
    ap (λ b. b || has_name (λ (entry : TableEntry). entry.name) (map entry_of_table ts) name) (nat_list_eq_equiv.symm t.name name)
    ∙ by (is_name name t.name) (no_table_entry ts name) h
  where
    by : (b : Bool) → (table_at ts name ≡ None → has_name (λ (entry : TableEntry). entry.name) (map entry_of_table ts) name ≡ false)
        → cond b (Some t) (table_at ts name) ≡ None → (b || has_name (λ (entry : TableEntry). entry.name) (map entry_of_table ts) name) ≡ false
    by true k g = absurd (cc)
    by false k g = k g

-- the view of a name, by the map of the views and by the definition
pub view_found : (views : List View) (name : List ℕ) → item_of (λ (view : View). view.name) views name ≡ find (λ (view : View). is_name name view.name) views
view_found [] name = refl
view_found (v ∷ vs) name = λ i. cond (nat_list_eq_equiv.symm v.name name i) (Some v) (view_found vs name i)

-- a table of that name, put behind the others, is the only one that goes with the name
pub removed_again : (tables : Tables) (t : Table) (name : List ℕ) → name ≡ t.name → table_at tables t.name ≡ None → filter (λ (u : Table). not (is_name name u.name)) (tables ++ t ∷ []) ≡ tables
removed_again tables t name e h =
    taken_back (λ (u : Table). is_name name u.name) tables t (ap (table_at tables) e ∙ h) (ap (λ n. is_name n t.name) e ∙ nat_list_eq_equiv.refl t.name)
