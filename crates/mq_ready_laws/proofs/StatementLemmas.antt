-- What a statement is bound to may run, and the laws, each as its contract has it.
use Rattle.std.proofs.Common.{◌≡◌, List, length, Bool, false, Result, Ok, subst}
use Rattle.std.specs.Prelude.{nat_le, nat_lt, not}
use Rattle.mq_lexer.specs.Words.{folded}
use Rattle.mq_values.specs.declared.faults.Refused.{Refused}
use Rattle.mq_values.specs.declared.limits.TheConstants.{MAX_COLUMNS, MAX_SCENARIO_CHANGES, MAX_SCENARIOS, MAX_TABLES, MAX_VIEWS}
use Rattle.mq_ast.specs.declared.queries.Query.{Query}
use Rattle.mq_ast.specs.declared.statements.ChangeTree.{ChangeTree}
use Rattle.mq_ast.specs.declared.statements.ColDef.{ColDef}
use Rattle.mq_ast.specs.declared.statements.Stmt.{Stmt}
use Rattle.mq_ast.specs.declared.statements.Stmt.TheVariants as stmt
use Rattle.mq_ir.specs.declared.catalog.Catalog.{Catalog}
use Rattle.mq_ir.specs.declared.limit_numbers.TheConstants.{LIMIT_OF_COLUMNS, LIMIT_OF_SCENARIO_CHANGES, LIMIT_OF_SCENARIOS, LIMIT_OF_TABLES, LIMIT_OF_VIEWS}
use Rattle.mq_ir.specs.declared.query.BoundQuery.{BoundQuery}
use Rattle.mq_ir.specs.declared.statement.Bound.{Bound}
use Rattle.mq_ir.specs.declared.statement.Bound.TheVariants as bound
use Rattle.mq_ir.specs.declared.statement.Column.{Column}
use Rattle.mq_ir.specs.declared.statement.TableDef.{TableDef}
use Rattle.mq_ir.specs.Names.{change_count, is_scenario, is_table, is_taken, is_view}
use Rattle.mq_ir.specs.Ready.{QueryIsReady}
use Rattle.mq_ir.specs.Results.{◌>>=◌}
use Rattle.mq_bind_scopes.specs.Names.{Name}
use Rattle.mq_bind_scopes.specs.Refusals.{duplicate_name, limit, refused_where, unknown_name}
use Rattle.mq_binder.specs.CellWalk.{cell_bound}
use Rattle.mq_binder.specs.ChangeWalk.{change_bound}
use Rattle.mq_binder.specs.QueryWalk.{query_bound}
use Rattle.mq_binder.specs.ScenarioWalk.{comparison_bound, scenario_created, scenarios_named, taken_in, under_bound}
use Rattle.mq_binder.specs.StatementWalk.{statement_bound, view_bound}
use Rattle.mq_binder.specs.TableWalk.{columns_named, columns_of, schema_with, table_bound}
use Rattle.mq_ready_laws.specs.ReadyLaws.{BoundQueryIsReady, BoundViewIsReady, CreatedTableIsNew, CreatedViewIsNew}
use Rattle.mq_ready_laws.proofs.QueryLemmas.{query_ready}
use Rattle.mq_ready_laws.proofs.StepLemmas.{ok_is, passed, went}

-- what is known of what a statement is bound to
abbrev Stands : Catalog → Bound → Type 0
Stands catalog (bound.CreateTable def) = is_taken catalog def.name ≡ false
Stands catalog (bound.CreateView name q) = (is_taken catalog name ≡ false) × QueryIsReady q
Stands catalog (bound.Query q) = QueryIsReady q
Stands catalog _ = Unit {0}

-- what is made at once, behind a test, and of what a step gives
made_stands : (catalog : Catalog) (made b : Bound) → ◌≡◌ {A = Result Bound Refused} (Ok made) (Ok b) → Stands catalog made → Stands catalog b
made_stands catalog made b h stands = subst (Stands catalog) (ok_is made b h) stands

tested_stands : (catalog : Catalog) (test : Bool) (refusal : Refused) (made b : Bound) → refused_where test refusal (Ok made) ≡ Ok b → Stands catalog made → Stands catalog b
tested_stands catalog test refusal made b h stands = made_stands catalog made b (passed test refusal (Ok made) b h).after stands

step_stands : {A : Type 0} (catalog : Catalog) (r : Result A Refused) (made : A → Bound) (b : Bound) → (r >>= (λ x. Ok (made x))) ≡ Ok b
    → ((x : A) → r ≡ Ok x → Stands catalog (made x)) → Stands catalog b
step_stands catalog r made b h stands =
    let w = went r (λ x. Ok (made x)) b h in
    made_stands catalog (made w.value) b w.after (stands w.value w.first)

-- ---- CREATE TABLE
table_is_named : (catalog : Catalog) (name : Name) (cols : List ColDef) (key : List Name) (def : TableDef) → table_bound catalog name cols key ≡ Ok def → is_taken catalog def.name ≡ false
table_is_named catalog name cols key def h =
    let made : List Column → Result TableDef Refused =
    λ columns. columns_named columns key >>= (λ numbers. Ok (record { name = name; schema = schema_with columns numbers })) in
    let few : List Column → Result TableDef Refused = λ columns. refused_where (nat_lt MAX_COLUMNS (length columns)) (limit LIMIT_OF_COLUMNS) (made columns) in
    let rest : Result TableDef Refused = columns_of cols >>= few in
    let new = passed (is_taken catalog name) (duplicate_name name) (refused_where (nat_le MAX_TABLES (length catalog.tables)) (limit LIMIT_OF_TABLES) rest) def h in
    let room = passed (nat_le MAX_TABLES (length catalog.tables)) (limit LIMIT_OF_TABLES) rest def new.after in
    let c = went (columns_of cols) few def room.after in
    let f = passed (nat_lt MAX_COLUMNS (length c.value)) (limit LIMIT_OF_COLUMNS) (made c.value) def c.after in
    let k = went (columns_named c.value key) (λ numbers. Ok (record { name = name; schema = schema_with c.value numbers })) def f.after in
    let whole : TableDef = record { name = name; schema = schema_with c.value k.value } in
    subst (λ (d : TableDef). is_taken catalog d.name ≡ false) {x = whole} (ok_is whole def k.after) new.holds_not

-- ---- CREATE VIEW
view_stands : (catalog : Catalog) (name : Name) (q : Query) (b : Bound) → view_bound catalog name q ≡ Ok b → Stands catalog b
view_stands catalog name q b h =
    let rest : Result Bound Refused = query_bound catalog q >>= (λ b. Ok (bound.CreateView name b)) in
    let p = passed (is_taken catalog name) (duplicate_name name) (refused_where (nat_le MAX_VIEWS (length catalog.views)) (limit LIMIT_OF_VIEWS) rest) b h in
    let r = passed (nat_le MAX_VIEWS (length catalog.views)) (limit LIMIT_OF_VIEWS) rest b p.after in
    step_stands catalog (query_bound catalog q) (λ b. bound.CreateView name b) b r.after (λ bq is. (p.holds_not, query_ready catalog q bq is))

-- ---- scenarios
created_stands : (catalog : Catalog) (name : Name) (b : Bound) → scenario_created catalog name ≡ Ok b → Stands catalog b
created_stands catalog name b h =
    let full = nat_le MAX_SCENARIOS (length catalog.scenarios) in
    let made = bound.CreateScenario name in
    let p = passed (is_taken catalog name) (duplicate_name name) (refused_where full (limit LIMIT_OF_SCENARIOS) (Ok made)) b h in
    tested_stands catalog full (limit LIMIT_OF_SCENARIOS) made b p.after tt

under_stands : (catalog : Catalog) (scenario : Name) (tree : ChangeTree) (b : Bound) → under_bound catalog scenario tree ≡ Ok b → Stands catalog b
under_stands catalog scenario tree b h =
    let full = nat_le MAX_SCENARIO_CHANGES (change_count catalog scenario) in
    let p = passed (not (is_scenario catalog scenario)) (unknown_name scenario) (change_bound catalog tree >>= taken_in catalog scenario) b h in
    let w = went (change_bound catalog tree) (taken_in catalog scenario) b p.after in
    tested_stands catalog full (limit LIMIT_OF_SCENARIO_CHANGES) (bound.Under scenario w.value) b w.after tt

comparison_stands : (catalog : Catalog) (view : Name) (names : List Name) (b : Bound) → comparison_bound catalog view names ≡ Ok b → Stands catalog b
comparison_stands catalog view names b h =
    let made : List Name → Bound = λ scenarios. bound.Compare view scenarios in
    let p = passed (not (is_view catalog view)) (unknown_name view) (scenarios_named catalog names >>= (λ scenarios. Ok (made scenarios))) b h in
    step_stands catalog (scenarios_named catalog names) made b p.after (λ scenarios is. tt)

-- ---- all statements
statement_stands : (catalog : Catalog) (s : Stmt) (b : Bound) → statement_bound catalog s ≡ Ok b → Stands catalog b
statement_stands catalog (stmt.CreateTable name cols key) b h =
    step_stands catalog (table_bound catalog (folded name) cols key) (λ def. bound.CreateTable def) b h (table_is_named catalog (folded name) cols key)
statement_stands catalog (stmt.DropTable name) b h =
    tested_stands catalog (not (is_table catalog (folded name))) (unknown_name (folded name)) (bound.DropTable (folded name)) b h tt
statement_stands catalog (stmt.CreateView name q) b h = view_stands catalog (folded name) q b h
statement_stands catalog (stmt.DropView name) b h =
    tested_stands catalog (not (is_view catalog (folded name))) (unknown_name (folded name)) (bound.DropView (folded name)) b h tt
statement_stands catalog (stmt.Change tree) b h = step_stands catalog (change_bound catalog tree) (λ c. bound.Change c) b h (λ c is. tt)
statement_stands catalog (stmt.Load name file) b h =
    tested_stands catalog (not (is_table catalog (folded name))) (unknown_name (folded name)) (bound.Load (folded name) file) b h tt
statement_stands catalog (stmt.Show name) b h = made_stands catalog (bound.Show (folded name)) b h tt
statement_stands catalog (stmt.Query q) b h = step_stands catalog (query_bound catalog q) (λ b. bound.Query b) b h (query_ready catalog q)
statement_stands catalog stmt.Begin b h = made_stands catalog bound.Begin b h tt
statement_stands catalog stmt.Commit b h = made_stands catalog bound.Commit b h tt
statement_stands catalog stmt.Rollback b h = made_stands catalog bound.Rollback b h tt
statement_stands catalog (stmt.CreateScenario name) b h = created_stands catalog (folded name) b h
statement_stands catalog (stmt.DropScenario name) b h =
    tested_stands catalog (not (is_scenario catalog (folded name))) (unknown_name (folded name)) (bound.DropScenario (folded name)) b h tt
statement_stands catalog (stmt.Under scenario tree) b h = under_stands catalog (folded scenario) tree b h
statement_stands catalog (stmt.Compare view scenarios) b h = comparison_stands catalog (folded view) scenarios b h
statement_stands catalog (stmt.ExplainCell view measure part cell) b h =
    step_stands catalog (cell_bound catalog (folded view) (folded measure) part cell) (λ asked. bound.ExplainCell asked) b h (λ asked is. tt)

-- ---- the laws
pub table_is_new : (catalog : Catalog) (s : Stmt) (def : TableDef) → CreatedTableIsNew catalog s def
table_is_new catalog s def = statement_stands catalog s (bound.CreateTable def)

pub view_is_new : (catalog : Catalog) (s : Stmt) (name : Name) (q : BoundQuery) → CreatedViewIsNew catalog s name q
view_is_new catalog s name q h = (statement_stands catalog s (bound.CreateView name q) h).0

pub query_is_ready : (catalog : Catalog) (s : Stmt) (q : BoundQuery) → BoundQueryIsReady catalog s q
query_is_ready catalog s q = statement_stands catalog s (bound.Query q)

pub view_is_ready : (catalog : Catalog) (s : Stmt) (name : Name) (q : BoundQuery) → BoundViewIsReady catalog s name q
view_is_ready catalog s name q h = (statement_stands catalog s (bound.CreateView name q) h).1
