-- Each view stays bound to what it was, whatever statement comes.
use Rattle.std.proofs.Common.{◌≡◌, ℕ, List, [], ◌∷◌, cond, Bool, true, false, not, Option, Some, None, Ok, All, slice_index_or, refl, ap, ◌∙◌}
use Rattle.std.specs.List.{filter, find, list_any}
use Rattle.std.specs.Option.{option_map, option_map_or}
use Rattle.std.proofs.lemmas.List.Elements.{All-cons, All-head, All-nil, All-push, All-same, All-tail, All-weaker}
use Rattle.mq_values.specs.declared.faults.Refused.TheVariants as refused
use Rattle.mq_ast.specs.declared.queries.Query.{Query}
use Rattle.mq_ast.specs.declared.statements.Stmt.{Stmt}
use Rattle.mq_ir.specs.declared.catalog.TableEntry.{TableEntry}
use Rattle.mq_ir.specs.declared.catalog.View.{View}
use Rattle.mq_ir.specs.declared.query.BoundQuery.{BoundQuery}
use Rattle.mq_ir.specs.declared.statement.Bound.{Bound}
use Rattle.mq_ir.specs.declared.statement.Bound.TheVariants as bound
use Rattle.mq_ir.specs.Lines.{Done}
use Rattle.mq_ir.specs.Statement.{Printed, State, create_table, create_view, drop_view, first_changer, first_reader, tables_read, unless_refused}
use Rattle.mq_ir.specs.Tables.{Table, Tables, is_name}
use Rattle.mq_bind_scopes.specs.Names.{Name}
use Rattle.mq_binder.specs.QueryWalk.{query_bound}
use Rattle.mq_engine.specs.Catalogs.{catalog_of, entry_of_table}
use Rattle.mq_engine.specs.Sessions.{nothing}
use Rattle.mq_tool.specs.Loads.{FileMap}
use Rattle.mq_tool.specs.Script.{Read, statement_step}
use Rattle.mq_tool.specs.Statements.{outside}
use Rattle.mq_bind_laws.specs.BoundViews.{IsBoundView, ScriptKeepsViewsBound, ViewsAreBound, ViewsStayBound, state_after}
use Rattle.mq_bind_laws.specs.StatementsBetween.{BlockKeepsColumns, entries}
use Rattle.mq_bind_laws.proofs.CameLemmas.{Came, came}
use Rattle.mq_bind_laws.proofs.DropLemmas.{query_outlasts_table}
use Rattle.mq_bind_laws.proofs.OutcomeLemmas.{Leaves, block_goes_on, gave_unless, is_quiet, stepped}
use Rattle.mq_bind_laws.proofs.StateLemmas.{after_creation, alike_over}

-- ---- views over another state
abbrev Alike : State → State → Type 0
Alike state next = (q : Query) (b : BoundQuery) → query_bound (catalog_of state) q ≡ Ok b → query_bound (catalog_of next) q ≡ Ok b

carried : (state next : State) → Alike state next → (vs : List View) → All (IsBoundView state) vs → All (IsBoundView next) vs
carried state next alike vs all = All-weaker (IsBoundView state) (IsBoundView next) (λ v p. (p.0, alike p.0 v.query p.1)) vs all

over : (state next : State) → Alike state next → next.views ≡ state.views → ViewsAreBound state → ViewsAreBound next
over state next alike same all = All-same (IsBoundView next) next.views state.views same (carried state next alike state.views all)

all_filter : (P : View → Type 0) (test : View → Bool) (vs : List View) → All P vs → All P (filter test vs)
all_filter P test [] all = All-nil P
all_filter P test (v ∷ vs) all = by (test v) (All-head P v vs all) (all_filter P test vs (All-tail P v vs all))
  where
    by : (b : Bool) → P v → All P (filter test vs) → All P (cond b (v ∷ filter test vs) (filter test vs))
    by true p rest = All-cons P v (filter test vs) p rest
    by false p rest = rest

-- ---- DROP TABLE
none_passes : (p : View → Bool) (vs : List View) → find p vs ≡ None → All (λ v. p v ≡ false) vs
none_passes p [] h = All-nil (λ v. p v ≡ false)
none_passes p (v ∷ vs) h = by (p v) refl h (none_passes p vs)
  where
    by : (b : Bool) → p v ≡ b → cond b (Some v) (find p vs) ≡ None → (find p vs ≡ None → All (λ v. p v ≡ false) vs) → All (λ v. p v ≡ false) (v ∷ vs)
    by true e g rest = absurd cc
    by false e g rest = All-cons (λ v. p v ≡ false) v vs e (rest g)

entries_without : (name : Name) (ts : Tables) → entries (filter (λ (t : Table). not (is_name name t.name)) ts) ≡ filter (λ (t : TableEntry). not (is_name name t.name)) (entries ts)
entries_without name [] = refl
entries_without name (t ∷ ts) = by (not (is_name name t.name)) (entries_without name ts)
  where
    by : (b : Bool) → entries (filter (λ (t : Table). not (is_name name t.name)) ts) ≡ filter (λ (t : TableEntry). not (is_name name t.name)) (entries ts)
        → entries (cond b (t ∷ filter (λ (t : Table). not (is_name name t.name)) ts) (filter (λ (t : Table). not (is_name name t.name)) ts))
        ≡ cond b (entry_of_table t ∷ filter (λ (t : TableEntry). not (is_name name t.name)) (entries ts)) (filter (λ (t : TableEntry). not (is_name name t.name)) (entries ts))
    by true e = ap (λ (es : List TableEntry). entry_of_table t ∷ es) e
    by false e = e

abbrev dropped : State → Name → State
dropped state name = record state { tables = filter (λ (t : Table). not (is_name name t.name)) state.tables }

without_reader : (state : State) (name : Name) (v : View) → list_any (is_name name) (tables_read v.query) ≡ false → IsBoundView state v → IsBoundView (dropped state name) v
without_reader state name v n p = (
  p.0,
  ap (λ (ts : List TableEntry). query_bound (record { tables = ts; views = state.views; scenarios = state.scenarios }) p.0) (entries_without name state.tables)
      ∙ query_outlasts_table (catalog_of state) name p.0 v.query p.1 n,
)

after_drop : (state : State) (name : Name) (o : Option View) → first_reader state.views name ≡ o → ViewsAreBound state
    → let changer = option_map (λ s. refused.InUse s.name) (first_changer state.scenarios name) in
    Leaves ViewsAreBound (unless_refused (option_map_or (λ (view : View). Some (refused.InUse view.name)) o changer) (Ok (dropped state name, Done ∷ [])))
after_drop state name None e all =
    let none = none_passes (λ (v : View). list_any (is_name name) (tables_read v.query)) state.views e in
    let next : ViewsAreBound (dropped state name) = λ k d lt. without_reader state name (slice_index_or state.views k d) (none k d lt) (all k d lt) in
    gave_unless (λ (p : Printed). ViewsAreBound p.0) (option_map (λ s. refused.InUse s.name) (first_changer state.scenarios name)) (Ok (dropped state name, Done ∷ [])) next
after_drop state name (Some v) e all = tt

-- ---- a step
others_bound : (files : FileMap) (state : State) (line : ℕ) (s : Stmt) (b : Bound) → Came (catalog_of state) s b → is_quiet b ≡ false → ViewsAreBound state → Leaves ViewsAreBound (outside files state line b)
others_bound files state line s (bound.CreateTable def) c quiet all = over state (create_table state def) (λ q b. after_creation state def q b) refl all
others_bound files state line s (bound.DropTable name) c quiet all = after_drop state name (first_reader state.views name) refl all
others_bound files state line s (bound.CreateView name query) c quiet all =
    let next : State = create_view state name query in
    let alike : Alike state next = λ q b. alike_over state next q b refl in
    All-push (IsBoundView next) state.views (record { name = name; query = query }) (carried state next alike state.views all) (c.view.0, alike c.view.0 query c.view.1)
others_bound files state line s (bound.DropView name) c quiet all =
    let next : State = drop_view state name in
    all_filter (IsBoundView next) (λ (v : View). not (is_name name v.name)) state.views (carried state next (λ q b. alike_over state next q b refl) state.views all)
others_bound files state line s _ c quiet all = absurd cc

pub views_stay : (files : FileMap) (state : State) (r : ℕ × Read) → ViewsStayBound files state r
views_stay files state r keeps all =
    stepped files state r ViewsAreBound (record {
      keeps = keeps;
      same = λ next s. over state next (λ q b. alike_over state next q b s.entries_same) s.views_same all;
      others = λ s b is e quiet none. others_bound files state r.0 s b (came (catalog_of state) s b e) quiet all;
    })

-- ---- scripts
after_all : (files : FileMap) (script : List (ℕ × Read)) (state : State) → BlockKeepsColumns state → ViewsAreBound state → ViewsAreBound (state_after files state script)
after_all files [] state keeps all = all
after_all files (r ∷ rs) state keeps all = after_all files rs (statement_step files state r).0 (block_goes_on files state r keeps) (views_stay files state r keeps all)

pub script_keeps : (files : FileMap) (script : List (ℕ × Read)) → ScriptKeepsViewsBound files script
script_keeps files script = after_all files script nothing refl (All-nil (IsBoundView nothing))
