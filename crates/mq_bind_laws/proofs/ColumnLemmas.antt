-- What is asked of a catalog stays from one state to the next.
use Rattle.std.proofs.Common.{◌≡◌, ℕ, List, [], ◌∷◌, ◌++◌, cond, Bool, true, false, not, ◌&&◌, All, refl, ap, ◌∙◌}
use Rattle.std.specs.Prelude.{length, nat_le, nat_lt}
use Rattle.std.specs.List.{filter, list_all}
use Rattle.std.proofs.lemmas.List.{map-append}
use Rattle.std.proofs.lemmas.List.Elements.{All-head, All-tail}
use Rattle.std.proofs.lemmas.List.Folds.{list_all-append}
use Rattle.mq_values.specs.declared.limits.TheConstants.{MAX_COLUMNS, MAX_SCALE}
use Rattle.mq_values.specs.declared.value.Kind.{Kind}
use Rattle.mq_values.specs.declared.value.Kind.TheVariants as kind
use Rattle.mq_ast.specs.declared.queries.Query.{Query}
use Rattle.mq_ast.specs.declared.statements.ColDef.{ColDef}
use Rattle.mq_ast.specs.declared.statements.Stmt.{Stmt}
use Rattle.mq_ir.specs.declared.catalog.Catalog.{Catalog}
use Rattle.mq_ir.specs.declared.catalog.View.{View}
use Rattle.mq_ir.specs.declared.query.BoundQuery.{BoundQuery}
use Rattle.mq_ir.specs.declared.statement.Bound.{Bound}
use Rattle.mq_ir.specs.declared.statement.Bound.TheVariants as bound
use Rattle.mq_ir.specs.declared.statement.Column.{Column}
use Rattle.mq_ir.specs.declared.statement.Schema.{Schema}
use Rattle.mq_ir.specs.declared.statement.TableDef.{TableDef}
use Rattle.mq_ir.specs.FitsExpression.{kind_fits}
use Rattle.mq_ir.specs.FitsStatement.{schema_fits}
use Rattle.mq_ir.specs.Statement.{Printed, State, use_of}
use Rattle.mq_ir.specs.Tables.{Table, Tables, is_name}
use Rattle.mq_bind_scopes.specs.Kinds.{of_column}
use Rattle.mq_bind_scopes.specs.Names.{Name}
use Rattle.mq_binder.specs.FitLaws.{MeasuresAreNamed, SchemaFits}
use Rattle.mq_binder.specs.Literals.{is_within}
use Rattle.mq_binder.specs.WithinLimits.{column_is_within, columns_within, table_is_within, view_names_measures}
use Rattle.mq_engine.specs.Catalogs.{catalog_of, entry_of_table}
use Rattle.mq_engine.specs.Sessions.{nothing}
use Rattle.mq_tool.specs.Loads.{FileMap}
use Rattle.mq_tool.specs.Script.{Read, statement_step}
use Rattle.mq_tool.specs.Statements.{outside}
use Rattle.mq_bind_laws.specs.BoundViews.{IsBoundView, state_after}
use Rattle.mq_bind_laws.specs.ColumnsWithin.{ColumnsStayWithin, ScriptKeepsCatalog, ViewsNameMeasures}
use Rattle.mq_bind_laws.specs.StatementsBetween.{BlockKeepsColumns, entries}
use Rattle.mq_bind_laws.proofs.CameLemmas.{Came, came}
use Rattle.mq_bind_laws.proofs.OutcomeLemmas.{Leaves, block_goes_on, gave_unless, is_quiet, stepped}
use Rattle.mq_bind_laws.proofs.ViewLemmas.{script_keeps}

both : (a b : Bool) → a ≡ true → b ≡ true → (a && b) ≡ true
both a b h k = ap (λ x. x && b) h ∙ k

left_of : (a b : Bool) → (a && b) ≡ true → a ≡ true
left_of true b h = refl
left_of false b h = absurd cc

right_of : (a b : Bool) → (a && b) ≡ true → b ≡ true
right_of true b h = h
right_of false b h = absurd cc

-- ---- columns of kinds that fit
kind_within : (k : Kind) → kind_fits k ≡ true → is_within (of_column k) ≡ true
kind_within kind.Int h = refl
kind_within (kind.Decimal s) h = right_of (nat_lt 0 s) (nat_le s MAX_SCALE) h
kind_within kind.Text h = refl
kind_within kind.Date h = refl

kinds_within : (cols : List Column) → list_all (λ (c : Column). kind_fits c.kind) cols ≡ true → list_all column_is_within cols ≡ true
kinds_within [] h = refl
kinds_within (c ∷ cols) h =
    let rest = list_all (λ (c : Column). kind_fits c.kind) cols in
    both (column_is_within c) (list_all column_is_within cols) (kind_within c.kind (left_of (kind_fits c.kind) rest h)) (kinds_within cols (right_of (kind_fits c.kind) rest h))

schema_within : (schema : Schema) → schema_fits schema ≡ true → list_all column_is_within schema.cols ≡ true
schema_within schema h =
    let a = nat_le (length schema.cols) MAX_COLUMNS in
    let b = list_all (λ (c : Column). kind_fits c.kind) schema.cols in
    let c = list_all (λ n. nat_lt n (length schema.cols)) schema.key in
    kinds_within schema.cols (right_of a b (left_of (a && b) c h))

-- ---- tables that come and go
abbrev all_within : Tables → Bool
all_within ts = list_all table_is_within (entries ts)

dropped : (name : List ℕ) (ts : Tables) → all_within ts ≡ true → all_within (filter (λ (t : Table). not (is_name name t.name)) ts) ≡ true
dropped name [] h = refl
dropped name (t ∷ ts) h =
    by (not (is_name name t.name)) (dropped name ts (right_of (table_is_within (entry_of_table t)) (all_within ts) h)) (left_of (table_is_within (entry_of_table t)) (all_within ts) h)
  where
    by : (b : Bool) → all_within (filter (λ (t : Table). not (is_name name t.name)) ts) ≡ true → table_is_within (entry_of_table t) ≡ true
        → all_within (cond b (t ∷ filter (λ (t : Table). not (is_name name t.name)) ts) (filter (λ (t : Table). not (is_name name t.name)) ts)) ≡ true
    by true k l = both (table_is_within (entry_of_table t)) (all_within (filter (λ (t : Table). not (is_name name t.name)) ts)) l k
    by false k l = k

created : (ts : Tables) (def : TableDef) → list_all column_is_within def.schema.cols ≡ true → all_within ts ≡ true
    → list_all table_is_within (entries (ts ++ record { name = def.name; schema = def.schema; rows = [] } ∷ [])) ≡ true
created ts def new h =
    let table : Table = record { name = def.name; schema = def.schema; rows = [] } in
    ap (list_all table_is_within) (map-append entry_of_table ts (table ∷ []))
    ∙ list_all-append table_is_within (entries ts) (entry_of_table table ∷ [])
    ∙ both (all_within ts) (table_is_within (entry_of_table table) && true) h (both (table_is_within (entry_of_table table)) true new refl)

-- ---- a step
abbrev SchemasFit : Type 0
SchemasFit = (catalog : Catalog) (name : Name) (cols : List ColDef) (key : List Name) (def : TableDef) → SchemaFits catalog name cols key def

others_within : SchemasFit → (files : FileMap) (state : State) (line : ℕ) (s : Stmt) (b : Bound) → Came (catalog_of state) s b → is_quiet b ≡ false → columns_within (catalog_of state) ≡ true
    → Leaves (λ (next : State). columns_within (catalog_of next) ≡ true) (outside files state line b)
others_within law files state line s (bound.CreateTable def) c quiet h =
    created state.tables def (schema_within def.schema (law (catalog_of state) c.table.0 c.table.1 c.table.2 def c.table.3)) h
others_within law files state line s (bound.DropTable name) c quiet h =
    gave_unless (λ (p : Printed). columns_within (catalog_of p.0) ≡ true) (use_of state name) _ (dropped name state.tables h)
others_within law files state line s (bound.CreateView name q) c quiet h = h
others_within law files state line s (bound.DropView name) c quiet h = h
others_within law files state line s _ c quiet h = absurd cc

pub stays_within : SchemasFit → (files : FileMap) (state : State) (r : ℕ × Read) → ColumnsStayWithin files state r
stays_within law files state r keeps h =
    stepped files state r (λ (next : State). columns_within (catalog_of next) ≡ true) (record {
      keeps = keeps;
      same = λ next s. ap (list_all table_is_within) s.entries_same ∙ h;
      others = λ s b is e quiet none. others_within law files state r.0 s b (came (catalog_of state) s b e) quiet h;
    })

-- ---- measures
abbrev MeasuresNamed : Type 0
MeasuresNamed = (catalog : Catalog) (q : Query) (b : BoundQuery) → MeasuresAreNamed catalog q b

names_all : MeasuresNamed → (state : State) (vs : List View) → All (IsBoundView state) vs → list_all view_names_measures vs ≡ true
names_all law state [] all = refl
names_all law state (v ∷ vs) all =
    let own = All-head (IsBoundView state) v vs all in
    both (view_names_measures v) (list_all view_names_measures vs) (law (catalog_of state) own.0 v.query own.1) (names_all law state vs (All-tail (IsBoundView state) v vs all))

pub views_name : MeasuresNamed → (state : State) → ViewsNameMeasures state
views_name law state all = names_all law state state.views all

-- ---- scripts
after_all : SchemasFit → (files : FileMap) (script : List (ℕ × Read)) (state : State) → BlockKeepsColumns state → columns_within (catalog_of state) ≡ true → columns_within (catalog_of (state_after files state script)) ≡ true
after_all law files [] state keeps h = h
after_all law files (r ∷ rs) state keeps h = after_all law files rs (statement_step files state r).0 (block_goes_on files state r keeps) (stays_within law files state r keeps h)

pub script_within : SchemasFit → MeasuresNamed → (files : FileMap) (script : List (ℕ × Read)) → ScriptKeepsCatalog files script
script_within law named files script = (
  after_all law files script nothing refl refl,
  views_name named (state_after files nothing script) (script_keeps files script),
)
