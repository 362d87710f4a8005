-- Statements but DROP TABLE leave queries bound to what they were.
use Rattle.std.proofs.Common.{◌≡◌, inl, inr, ℕ, List, [], ◌∷◌, true, false, Result, Ok, Err, refl, sym, ap, ◌∙◌}
use Rattle.std.proofs.lemmas.List.{map-append}
use Rattle.mq_values.specs.declared.faults.Refused.{Refused}
use Rattle.mq_ast.specs.declared.queries.Query.{Query}
use Rattle.mq_ast.specs.declared.statements.Stmt.{Stmt}
use Rattle.mq_ir.specs.declared.catalog.Catalog.{Catalog}
use Rattle.mq_ir.specs.declared.catalog.Scenario.{Scenario}
use Rattle.mq_ir.specs.declared.catalog.TableEntry.{TableEntry}
use Rattle.mq_ir.specs.declared.catalog.View.{View}
use Rattle.mq_ir.specs.declared.query.BoundQuery.{BoundQuery}
use Rattle.mq_ir.specs.declared.statement.Bound.{Bound}
use Rattle.mq_ir.specs.declared.statement.Bound.TheVariants as bound
use Rattle.mq_ir.specs.declared.statement.TableDef.{TableDef}
use Rattle.mq_ir.specs.Statement.{State, create_table, create_view, drop_view}
use Rattle.mq_ir.specs.Tables.{Table}
use Rattle.mq_bind_scopes.specs.Refusals.{unknown_name}
use Rattle.mq_binder.specs.QueryWalk.{query_bound}
use Rattle.mq_engine.specs.Catalogs.{catalog_of, entry_of_table}
use Rattle.mq_tool.specs.Loads.{FileMap}
use Rattle.mq_tool.specs.Script.{Read, Tree}
use Rattle.mq_tool.specs.Statements.{outside}
use Rattle.mq_bind_laws.specs.FurtherTable.{StaysUnlessUnknown}
use Rattle.mq_bind_laws.specs.StatementsBetween.{QueryIgnoresViews, QueryOutlasts, drops_table, entries}
use Rattle.mq_bind_laws.proofs.CameLemmas.{Came, came}
use Rattle.mq_bind_laws.proofs.OutcomeLemmas.{Leaves, is_quiet, stepped}
use Rattle.mq_bind_laws.proofs.QueryLemmas.{query_stays}
use Rattle.mq_bind_laws.proofs.StatementLemmas.{query_bound_alike}

-- ---- A query that looks at no view is refused for no name's sake alone: two names would have to be the one offence.
two_names : {A : Type 0} (r s : Result A Refused) → StaysUnlessUnknown [] r s → StaysUnlessUnknown (0 ∷ []) r s → s ≡ r
two_names r s (inl e) other = e
two_names r s (inr e) (inl f) = f
two_names {A = A} r s (inr e) (inr f) = absurd (let n : ◌≡◌ {A = Result A Refused} (Err (unknown_name [])) (Err (unknown_name (0 ∷ []))) = sym e ∙ f in cc)

pub views_ignored : (catalog : Catalog) (views : List View) (scenarios : List Scenario) (q : Query) → QueryIgnoresViews catalog views scenarios q
views_ignored catalog views scenarios q =
    let after : Catalog = record { tables = catalog.tables; views = views; scenarios = scenarios } in
    two_names (query_bound catalog q) (query_bound after q) (query_stays [] catalog after (λ n. inl refl) q) (query_stays (0 ∷ []) catalog after (λ n. inl refl) q)

-- ---- the query over a state whose tables have the same names and columns
pub alike_over : (state next : State) (q : Query) (b : BoundQuery) → entries next.tables ≡ entries state.tables
    → query_bound (catalog_of state) q ≡ Ok b → query_bound (catalog_of next) q ≡ Ok b
alike_over state next q b e h =
    ap (λ (ts : List TableEntry). query_bound (record { tables = ts; views = next.views; scenarios = next.scenarios }) q) e
    ∙ views_ignored (catalog_of state) next.views next.scenarios q ∙ h

pub after_creation : (state : State) (def : TableDef) (q : Query) (b : BoundQuery)
    → query_bound (catalog_of state) q ≡ Ok b → query_bound (catalog_of (create_table state def)) q ≡ Ok b
after_creation state def q b h =
    let new : Table = record { name = def.name; schema = def.schema; rows = [] } in
    ap (λ (ts : List TableEntry). query_bound (record { tables = ts; views = state.views; scenarios = state.scenarios }) q) (map-append entry_of_table state.tables (new ∷ []))
    ∙ query_bound_alike (catalog_of state) (entry_of_table new) q b h

module _ (files : FileMap) (state : State) (r : ℕ × Read) (q : Query) (b : BoundQuery) (n : drops_table r.1 ≡ false) (h : query_bound (catalog_of state) q ≡ Ok b) where
  abbrev BoundOver : State → Type 0
  BoundOver next = query_bound (catalog_of next) q ≡ Ok b

  others_alike : (s : Stmt) (x : Bound) → r.1 ≡ Tree s → Came (catalog_of state) s x → is_quiet x ≡ false → Leaves BoundOver (outside files state r.0 x)
  others_alike s (bound.CreateTable def) is c quiet = after_creation state def q b h
  others_alike s (bound.DropTable name) is c quiet = absurd (let e : true ≡ false = c.drop ∙ ap drops_table (sym is) ∙ n in cc)
  others_alike s (bound.CreateView name query) is c quiet = alike_over state (create_view state name query) q b refl h
  others_alike s (bound.DropView name) is c quiet = alike_over state (drop_view state name) q b refl h
  others_alike s _ is c quiet = absurd cc

pub query_outlasts : (files : FileMap) (state : State) (r : ℕ × Read) (q : Query) (b : BoundQuery) → QueryOutlasts files state r q b
query_outlasts files state r q b n keeps h =
    stepped files state r (λ (next : State). query_bound (catalog_of next) q ≡ Ok b) (record {
      keeps = keeps;
      same = λ next s. alike_over state next q b s.entries_same h;
      others = λ s x is e quiet none. others_alike files state r q b n h s x is (came (catalog_of state) s x e) quiet;
    })
