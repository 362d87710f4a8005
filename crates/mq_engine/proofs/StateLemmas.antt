-- The names of a session after each change of its tables, and what is asked of its views.
use Rattle.std.proofs.Common.{◌≡◌, ℕ, List, [], ◌∷◌, ◌++◌, Bool, false, not, map, Option, Some, None, Result, Ok, Err, sym, ap, subst, ◌∙◌}
use Rattle.std.specs.Prelude.{OnErr, OnOk}
use Rattle.std.specs.List.{All, filter}
use Rattle.std.specs.Option.{option_map_or}
use Rattle.std.proofs.lemmas.List.Elements.{All-filter, All-push}
use Rattle.mq_values.specs.declared.memory.Memory.{Memory}
use Rattle.mq_ir.specs.declared.catalog.Catalog.{Catalog}
use Rattle.mq_ir.specs.declared.catalog.TableEntry.{TableEntry}
use Rattle.mq_ir.specs.declared.catalog.View.{View}
use Rattle.mq_ir.specs.declared.query.Compared.{Compared}
use Rattle.mq_ir.specs.NamedItems.{has_name, item_of}
use Rattle.mq_ir.specs.Ready.{QueryIsReady}
use Rattle.mq_ir.specs.Scenarios.{compared}
use Rattle.mq_ir.specs.Statement.{State}
use Rattle.mq_ir.specs.Tables.{Table, Tables, is_name, table_at}
use Rattle.mq_engine.specs.declared.open_block.OpenBlock.{OpenBlock}
use Rattle.mq_engine.specs.declared.views.NoView.{NoView}
use Rattle.mq_engine.specs.Blocks.{state_over}
use Rattle.mq_engine.specs.Catalogs.{entry_of_table}
use Rattle.mq_engine.specs.Scenarios.{changes_under}
use Rattle.mq_engine.specs.Sessions.{view_compared}
use Rattle.mq_engine.proofs.CatalogLemmas.{no_table_entry, removed_again, view_found}
use Rattle.mq_engine.proofs.ListLemmas.{mapped_kept}

module _ (entries : List TableEntry) (tables : Tables) (same : entries ≡ map entry_of_table tables) where
  -- a name that no table has is new to the entries
  pub new_table_entry : (name : List ℕ) (entry : TableEntry) → entry.name ≡ name → table_at tables name ≡ None → has_name (λ (entry : TableEntry). entry.name) entries entry.name ≡ false
  new_table_entry name entry e h =
      ap (has_name (λ (entry : TableEntry). entry.name) entries) e
      ∙ ap (λ (es : List TableEntry). has_name (λ (entry : TableEntry). entry.name) es name) same
      ∙ no_table_entry tables name h

  -- those of a name are taken away
  pub tables_kept : (name : List ℕ) (after : Tables) (left : List TableEntry)
      → after ≡ filter (λ (t : Table). not (is_name name t.name)) tables → left ≡ filter (λ (entry : TableEntry). not (is_name name entry.name)) entries → left ≡ map entry_of_table after
  tables_kept name after left a h =
      let is_other : TableEntry → Bool = λ entry. not (is_name name entry.name) in
      h ∙ ap (filter is_other) same ∙ sym (mapped_kept entry_of_table is_other tables) ∙ ap (map entry_of_table) (sym a)

  -- a table that was put there is taken away again
  pub tables_back : (t : Table) (name : List ℕ) (put after : Tables) → put ≡ tables ++ t ∷ [] → name ≡ t.name → table_at tables t.name ≡ None
      → after ≡ filter (λ (u : Table). not (is_name name u.name)) put → after ≡ tables
  tables_back t name put after p n h a = a ∙ ap (filter (λ (u : Table). not (is_name name u.name))) p ∙ removed_again tables t name n h

  pub names_back : (after : Tables) (left : List TableEntry) → after ≡ tables → left ≡ entries → left ≡ map entry_of_table after
  names_back after left a e = e ∙ same ∙ ap (map entry_of_table) (sym a)

-- views that may run, with one more, and without some
abbrev pub AreReady : List View → Type 0
AreReady views = All (λ (v : View). QueryIsReady v.query) views

ready_put : (views after : List View) (v : View) → after ≡ views ++ v ∷ [] → AreReady views → QueryIsReady v.query → AreReady after
ready_put views after v a h r = subst AreReady (sym a) (All-push (λ (v : View). QueryIsReady v.query) views v h r)

pub ready_put_or_not : (r : Result (Unit {0}) Memory) (views after : List View) (v : View) → OnOk r (after ≡ views ++ v ∷ []) → OnErr r (after ≡ views) → AreReady views
    → QueryIsReady v.query → AreReady after
ready_put_or_not (Ok u) views after v a b h r = ready_put views after v a h r
ready_put_or_not (Err wanted) views after v a b h r = subst AreReady (sym b) h

pub ready_kept : (p : View → Bool) (views after : List View) → after ≡ filter p views → AreReady views → AreReady after
ready_kept p views after a h = subst AreReady (sym a) (All-filter p (λ (v : View). QueryIsReady v.query) views h)

-- what a view that is found answers under scenarios
pub compared_is : (tables : Tables) (k : Catalog) (block : Option OpenBlock) (state : State) → state_over tables k block ≡ state → (view : List ℕ) (names : List (List ℕ)) (v : View)
    (found : List Compared) → Some v ≡ item_of (λ (view : View). view.name) k.views view → found ≡ map (λ name. compared tables v.query (changes_under k.scenarios name)) names
    → view_compared state view names ≡ Ok found
compared_is tables k block state is view names v found h e =
    let no : Result (List Compared) NoView = Err (record { name = view }) in
    ap (λ (s : State). view_compared s view names) (sym is)
    ∙ ap (λ (o : Option View). option_map_or (λ (v : View). Ok (map (λ name. compared tables v.query (changes_under k.scenarios name)) names)) o no)
    (sym (view_found k.views view) ∙ sym h)
    ∙ ap Ok (sym e)
