-- What a further table changes of binding: answers that its name is unknown, and no other.
use Rattle.std.specs.Prelude.{◌≡◌, ◌≢◌, ◌⊎◌, ◌<◌, ◌+◌, ℕ, List, [], ◌∷◌, ◌++◌, take, drop, length, Bool, true, false, Result, Ok, Err}
use Rattle.mq_lexer.specs.Words.{folded}
use Rattle.mq_values.specs.declared.faults.Refused.{Refused}
use Rattle.mq_values.specs.declared.limits.TheConstants.{MAX_TABLES}
use Rattle.mq_ast.specs.declared.queries.Query.{Query}
use Rattle.mq_ast.specs.declared.statements.ColDef.{ColDef}
use Rattle.mq_ast.specs.declared.statements.Stmt.{Stmt}
use Rattle.mq_ast.specs.declared.statements.Stmt.TheVariants as stmt
use Rattle.mq_ir.specs.declared.catalog.Catalog.{Catalog}
use Rattle.mq_ir.specs.declared.catalog.TableEntry.{TableEntry}
use Rattle.mq_ir.specs.declared.query.BoundQuery.{BoundQuery}
use Rattle.mq_ir.specs.declared.statement.Bound.{Bound}
use Rattle.mq_ir.specs.Names.{is_table}
use Rattle.mq_bind_scopes.specs.Names.{Name}
use Rattle.mq_bind_scopes.specs.Refusals.{unknown_name}
use Rattle.mq_binder.specs.QueryWalk.{query_bound}
use Rattle.mq_binder.specs.StatementWalk.{statement_bound}

-- a catalog with a further table, where CREATE TABLE puts it: behind the others
abbrev pub with_table : Catalog → TableEntry → Catalog
with_table catalog table = record { tables = catalog.tables ++ table ∷ []; views = catalog.views; scenarios = catalog.scenarios }

-- and with a further table at any place among the others
abbrev pub with_table_at : ℕ → Catalog → TableEntry → Catalog
with_table_at place catalog table =
    record { tables = take place catalog.tables ++ table ∷ drop place catalog.tables; views = catalog.views; scenarios = catalog.scenarios }

-- The answer stays as it was, unless it was that this name is unknown.
abbrev pub StaysUnlessUnknown : {A : Type 0} → Name → Result A Refused → Result A Refused → Type 0
StaysUnlessUnknown name before after = (after ≡ before) ⊎ (before ≡ Err (unknown_name name))

-- A query that is bound is bound to the same with a further table.
abbrev pub QueryStaysBound : Catalog → TableEntry → Query → BoundQuery → Type 0
QueryStaysBound catalog table q b = query_bound catalog q ≡ Ok b → query_bound (with_table catalog table) q ≡ Ok b

-- One that is refused is refused for the same offence, unless that is that the table's name is unknown.
abbrev pub QueryStays : Catalog → TableEntry → Query → Type 0
QueryStays catalog table q = StaysUnlessUnknown table.name (query_bound catalog q) (query_bound (with_table catalog table) q)

-- So it is wherever the table stands, where its name is new.
abbrev pub QueryStaysAnywhere : ℕ → Catalog → TableEntry → Query → Type 0
QueryStaysAnywhere place catalog table q =
    is_table catalog table.name ≡ false
    → StaysUnlessUnknown table.name (query_bound catalog q) (query_bound (with_table_at place catalog table) q)

-- statements that want a name which is new
abbrev pub creates : Stmt → Bool
creates (stmt.CreateTable name cols key) = true
creates (stmt.CreateView name q) = true
creates (stmt.CreateScenario name) = true
creates _ = false

-- Each other statement that is bound is bound to the same with a further table.
abbrev pub StatementStaysBound : Catalog → TableEntry → Stmt → Bound → Type 0
StatementStaysBound catalog table s b =
    creates s ≡ false → statement_bound catalog s ≡ Ok b → statement_bound (with_table catalog table) s ≡ Ok b

abbrev pub StatementStays : Catalog → TableEntry → Stmt → Type 0
StatementStays catalog table s =
    creates s ≡ false → StaysUnlessUnknown table.name (statement_bound catalog s) (statement_bound (with_table catalog table) s)

-- So it is of CREATE VIEW of another name.
abbrev pub ViewStays : Catalog → TableEntry → Name → Query → Type 0
ViewStays catalog table name q =
    folded name ≢ table.name
    → StaysUnlessUnknown table.name
    (statement_bound catalog (stmt.CreateView name q)) (statement_bound (with_table catalog table) (stmt.CreateView name q))

-- CREATE SCENARIO of another name has the same answer.
abbrev pub ScenarioStays : Catalog → TableEntry → Name → Type 0
ScenarioStays catalog table name =
    folded name ≢ table.name
    → statement_bound (with_table catalog table) (stmt.CreateScenario name) ≡ statement_bound catalog (stmt.CreateScenario name)

-- CREATE TABLE of another name has the same answer, where there is room for one more table.
abbrev pub TableStays : Catalog → TableEntry → Name → List ColDef → List Name → Type 0
TableStays catalog table name cols key =
    folded name ≢ table.name → length catalog.tables + 1 < MAX_TABLES
    → statement_bound (with_table catalog table) (stmt.CreateTable name cols key) ≡ statement_bound catalog (stmt.CreateTable name cols key)
