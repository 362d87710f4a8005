-- Statements look at the catalog for their own names, and as their queries do.
use Rattle.std.proofs.Common.{◌≡◌, ◌≢◌, inl, ℕ, ◌+◌, List, [], ◌∷◌, ◌++◌, length, Bool, false, ◌||◌, Result, Ok, refl, sym, ap, ◌∙◌, subst, arith}
use Rattle.std.specs.Prelude.{nat_le}
use Rattle.std.proofs.lemmas.Bool.Decides.{nat_tests}
use Rattle.std.proofs.lemmas.List.{length-append}
use Rattle.mq_lexer.specs.Words.{folded}
use Rattle.mq_values.specs.declared.faults.Refused.{Refused}
use Rattle.mq_values.specs.declared.limits.TheConstants.{MAX_SCENARIOS, MAX_TABLES, MAX_VIEWS}
use Rattle.mq_ast.specs.declared.queries.Query.{Query}
use Rattle.mq_ast.specs.declared.statements.ChangeTree.{ChangeTree}
use Rattle.mq_ast.specs.declared.statements.ChangeTree.TheVariants as tree
use Rattle.mq_ast.specs.declared.statements.ColDef.{ColDef}
use Rattle.mq_ast.specs.declared.statements.Stmt.{Stmt}
use Rattle.mq_ast.specs.declared.statements.Stmt.TheVariants as stmt
use Rattle.mq_ir.specs.declared.catalog.Catalog.{Catalog}
use Rattle.mq_ir.specs.declared.catalog.TableEntry.{TableEntry}
use Rattle.mq_ir.specs.declared.limit_numbers.TheConstants.{LIMIT_OF_SCENARIOS, LIMIT_OF_VIEWS}
use Rattle.mq_ir.specs.declared.query.BoundQuery.{BoundQuery}
use Rattle.mq_ir.specs.declared.statement.Bound.{Bound}
use Rattle.mq_ir.specs.declared.statement.Bound.TheVariants as bound
use Rattle.mq_ir.specs.Names.{is_scenario, is_table, is_view}
use Rattle.mq_ir.specs.Results.{◌>>=◌}
use Rattle.mq_bind_scopes.specs.Names.{Name}
use Rattle.mq_bind_scopes.specs.Refusals.{duplicate_name, limit, refused_where}
use Rattle.mq_binder.specs.ChangeWalk.{change_bound}
use Rattle.mq_binder.specs.FromWalk.{table_called}
use Rattle.mq_binder.specs.QueryWalk.{query_bound}
use Rattle.mq_binder.specs.StatementWalk.{if_table, statement_bound}
use Rattle.mq_bind_laws.specs.FurtherTable.{QueryStays, QueryStaysAnywhere, QueryStaysBound, ScenarioStays, StatementStays, StatementStaysBound, StaysUnlessUnknown, TableStays, ViewStays, with_table, with_table_at}
use Rattle.mq_bind_laws.proofs.QueryLemmas.{query_stays}
use Rattle.mq_bind_laws.proofs.StepLemmas.{first_stays, still_given, test_stays}
use Rattle.mq_bind_laws.proofs.TableLemmas.{grown, grown_at, if_table_stays, is_table_stays, table_stays}

-- ---- queries
pub query_answer : (catalog : Catalog) (table : TableEntry) (q : Query) → QueryStays catalog table q
query_answer catalog table q =
    query_stays table.name catalog (with_table catalog table) (table_stays table catalog (with_table catalog table) (grown catalog table)) q

pub query_bound_alike : (catalog : Catalog) (table : TableEntry) (q : Query) (b : BoundQuery) → QueryStaysBound catalog table q b
query_bound_alike catalog table q b = still_given table.name (query_bound catalog q) (query_bound (with_table catalog table) q) b (query_answer catalog table q)

pub query_anywhere : (place : ℕ) (catalog : Catalog) (table : TableEntry) (q : Query) → QueryStaysAnywhere place catalog table q
query_anywhere place catalog table q h =
    query_stays table.name catalog (with_table_at place catalog table) (table_stays table catalog (with_table_at place catalog table) (grown_at place catalog table h)) q

-- ---- statements that want no new name
called_stays : (catalog : Catalog) (table : TableEntry) (name : Name) → StaysUnlessUnknown table.name (table_called catalog name) (table_called (with_table catalog table) name)
called_stays catalog table = table_stays table catalog (with_table catalog table) (grown catalog table)

if_stays : (catalog : Catalog) (table : TableEntry) (name : Name) (b : Bound) → StaysUnlessUnknown table.name (if_table catalog name b) (if_table (with_table catalog table) name b)
if_stays catalog table = if_table_stays table catalog (with_table catalog table) (grown catalog table)

change_stays : (catalog : Catalog) (table : TableEntry) (c : ChangeTree) → StaysUnlessUnknown table.name (change_bound catalog c) (change_bound (with_table catalog table) c)
change_stays catalog table (tree.Insert name cols rows) =
    first_stays table.name (table_called catalog (folded name)) (table_called (with_table catalog table) (folded name)) _ (called_stays catalog table (folded name))
change_stays catalog table (tree.Update name sets filter) =
    first_stays table.name (table_called catalog (folded name)) (table_called (with_table catalog table) (folded name)) _ (called_stays catalog table (folded name))
change_stays catalog table (tree.Delete name filter) =
    first_stays table.name (table_called catalog (folded name)) (table_called (with_table catalog table) (folded name)) _ (called_stays catalog table (folded name))

pub statement_answer : (catalog : Catalog) (table : TableEntry) (s : Stmt) → StatementStays catalog table s
statement_answer catalog table (stmt.CreateTable name cols key) h = absurd cc
statement_answer catalog table (stmt.DropTable name) h = if_stays catalog table (folded name) (bound.DropTable (folded name))
statement_answer catalog table (stmt.CreateView name q) h = absurd cc
statement_answer catalog table (stmt.DropView name) h = inl refl
statement_answer catalog table (stmt.Change c) h = first_stays table.name (change_bound catalog c) (change_bound (with_table catalog table) c) _ (change_stays catalog table c)
statement_answer catalog table (stmt.Load name file) h = if_stays catalog table (folded name) (bound.Load (folded name) file)
statement_answer catalog table (stmt.Show name) h = inl refl
statement_answer catalog table (stmt.Query q) h =
    first_stays table.name (query_bound catalog q) (query_bound (with_table catalog table) q) _ (query_answer catalog table q)
statement_answer catalog table stmt.Begin h = inl refl
statement_answer catalog table stmt.Commit h = inl refl
statement_answer catalog table stmt.Rollback h = inl refl
statement_answer catalog table (stmt.CreateScenario name) h = absurd cc
statement_answer catalog table (stmt.DropScenario name) h = inl refl
statement_answer catalog table (stmt.Under scenario c) h =
    test_stays table.name _ _ _ _ (first_stays table.name (change_bound catalog c) (change_bound (with_table catalog table) c) _ (change_stays catalog table c))
statement_answer catalog table (stmt.Compare view scenarios) h = inl refl
statement_answer catalog table (stmt.ExplainCell view measure part cell) h = inl refl

pub statement_bound_alike : (catalog : Catalog) (table : TableEntry) (s : Stmt) (b : Bound) → StatementStaysBound catalog table s b
statement_bound_alike catalog table s b h =
    still_given table.name (statement_bound catalog s) (statement_bound (with_table catalog table) s) b (statement_answer catalog table s h)

-- ---- statements that want a new name
taken_alike : (catalog : Catalog) (table : TableEntry) (name : Name) → name ≢ table.name
    → is_table (with_table catalog table) name ≡ is_table catalog name
taken_alike catalog table = is_table_stays table catalog (with_table catalog table) (grown catalog table)

-- behind the test for a new name
abbrev new_among : {A : Type 0} → Catalog → Name → Bool → Result A Refused → Result A Refused
new_among catalog name is_there next = refused_where (is_there || is_view catalog name || is_scenario catalog name) (duplicate_name name) next

pub view_answer : (catalog : Catalog) (table : TableEntry) (name : Name) (q : Query) → ViewStays catalog table name q
view_answer catalog table name q other =
    let after : Result Bound Refused =
    refused_where (nat_le MAX_VIEWS (length catalog.views)) (limit LIMIT_OF_VIEWS) (query_bound (with_table catalog table) q >>= (λ b. Ok (bound.CreateView (folded name) b))) in
    subst
    (λ (t : Bool). StaysUnlessUnknown table.name (statement_bound catalog (stmt.CreateView name q)) (new_among catalog (folded name) t after))
    (sym (taken_alike catalog table (folded name) other))
    (test_stays table.name _ _ _ after (test_stays table.name _ _ _ _
    (first_stays table.name (query_bound catalog q) (query_bound (with_table catalog table) q) _ (query_answer catalog table q))))

pub scenario_answer : (catalog : Catalog) (table : TableEntry) (name : Name) → ScenarioStays catalog table name
scenario_answer catalog table name other =
    let made : Result Bound Refused = refused_where (nat_le MAX_SCENARIOS (length catalog.scenarios)) (limit LIMIT_OF_SCENARIOS) (Ok (bound.CreateScenario (folded name))) in
    ap (λ (t : Bool). new_among catalog (folded name) t made) (taken_alike catalog table (folded name) other)

pub table_answer : (catalog : Catalog) (table : TableEntry) (name : Name) (cols : List ColDef) (key : List Name) → TableStays catalog table name cols key
table_answer catalog table name cols key other room =
    let l : length (catalog.tables ++ table ∷ []) ≡ length catalog.tables + 1 = length-append catalog.tables (table ∷ []) in
    let a : nat_le MAX_TABLES (length (catalog.tables ++ table ∷ [])) ≡ false = ap (nat_le MAX_TABLES) l ∙ grind (arith, nat_tests) in
    let b : nat_le MAX_TABLES (length catalog.tables) ≡ false = grind (arith, nat_tests) in
    let t = taken_alike catalog table (folded name) other in
    rw (t, a, b) refl
