-- A bound statement fits the catalog.
use Rattle.std.proofs.Common.{◌≡◌, ℕ, ◌+◌, List, [], ◌∷◌, map, length, true, false, not, ◌&&◌, Result, Ok, Err, refl, sym, ap, ◌∙◌, subst, arith}
use Rattle.std.specs.Prelude.{nat_le, nat_lt}
use Rattle.std.specs.List.{enumerate_from, list_all, list_any}
use Rattle.std.proofs.lemmas.Bool.Decides.{nat_tests}
use Rattle.std.proofs.lemmas.List.{length-map}
use Rattle.std.proofs.lemmas.List.FromFn.{length-enumerate_from}
use Rattle.mq_lexer.specs.Words.{folded}
use Rattle.mq_values.specs.Answers.{Gives}
use Rattle.mq_values.specs.declared.faults.Refused.{Refused}
use Rattle.mq_values.specs.declared.memory.Fail.{Fail}
use Rattle.mq_values.specs.declared.limits.TheConstants.{MAX_COLUMNS, MAX_TABLES, MAX_VIEWS}
use Rattle.mq_ast.specs.declared.queries.Query.{Query}
use Rattle.mq_ast.specs.declared.statements.ColDef.{ColDef}
use Rattle.mq_ast.specs.declared.statements.Stmt.{Stmt}
use Rattle.mq_ast.specs.declared.statements.Stmt.TheVariants as stmt
use Rattle.mq_ir.specs.declared.catalog.Catalog.{Catalog}
use Rattle.mq_ir.specs.declared.limit_numbers.TheConstants.{LIMIT_OF_COLUMNS, LIMIT_OF_SCALE, LIMIT_OF_TABLES, LIMIT_OF_VIEWS}
use Rattle.mq_ir.specs.declared.statement.Bound.{Bound}
use Rattle.mq_ir.specs.declared.statement.Bound.TheVariants as bound
use Rattle.mq_ir.specs.declared.statement.Column.{Column}
use Rattle.mq_ir.specs.declared.statement.TableDef.{TableDef}
use Rattle.mq_ir.specs.FitsExpression.{kind_fits}
use Rattle.mq_ir.specs.FitsStatement.{fits, schema_fits}
use Rattle.mq_ir.specs.Names.{is_table, is_taken, is_view}
use Rattle.mq_ir.specs.Results.{◌>>=◌}
use Rattle.mq_ir.specs.Tables.{is_name}
use Rattle.mq_bind_scopes.specs.Names.{Name}
use Rattle.mq_bind_scopes.specs.Refusals.{duplicate_name, limit, refused_where, unknown_name}
use Rattle.mq_binder.specs.CellWalk.{cell_bound}
use Rattle.mq_binder.specs.ChangeWalk.{change_bound}
use Rattle.mq_binder.specs.FitLaws.{AnswerFits}
use Rattle.mq_binder.specs.QueryWalk.{query_bound}
use Rattle.mq_binder.specs.StatementWalk.{if_table, if_view, statement_bound, view_bound}
use Rattle.mq_binder.specs.TableWalk.{column_of, columns_named, columns_of, new_column, schema_with, table_bound, with_key}
use Rattle.mq_binder.specs.WithinLimits.{columns_within, measures_named}
use Rattle.mq_binder.specs.StatementLiterals.{query_literals, statement_literals}
use Rattle.mq_binder.proofs.CellFitLemmas.{explained_fits}
use Rattle.mq_binder.proofs.ChangeLemmas.{change_fit, number_fits}
use Rattle.mq_binder.proofs.QueryFitLemmas.{query_fit}
use Rattle.mq_binder.proofs.ScenarioFitLemmas.{comparison_fits_catalog, creation_fits, drop_fits, under_fits_catalog}
use Rattle.mq_binder.proofs.FitStepLemmas.{Each, all_each, behind_gives, both, ok_is, passed, was_not, went}

abbrev FitsNow : Catalog → Bound → Type 0
FitsNow catalog b = fits catalog b ≡ true

-- ---- CREATE TABLE
column_fits : (taken : List Name) (c : ColDef) (column : Column) → column_of taken c ≡ Ok column → kind_fits column.kind ≡ true
column_fits taken c column h =
    let whole : Column = record { name = folded c.name; kind = c.kind; not_null = c.not_null } in
    let new = passed (list_any (is_name (folded c.name)) taken) (duplicate_name (folded c.name)) (refused_where (not (kind_fits c.kind)) (limit LIMIT_OF_SCALE) (Ok whole)) column h in
    let fine = passed (not (kind_fits c.kind)) (limit LIMIT_OF_SCALE) (Ok whole) column new.after in
    ap (λ (z : Column). kind_fits z.kind) (sym (ok_is whole column fine.after)) ∙ was_not (kind_fits c.kind) fine.holds_not

anything : {A : Type 0} (xs : List A) → Each (λ (x : A). Unit {0}) xs
anything [] = tt
anything (x ∷ xs) = (tt, anything xs)

columns_fit : (cols : List ColDef) (columns : List Column) → columns_of cols ≡ Ok columns → list_all (λ (c : Column). kind_fits c.kind) columns ≡ true
columns_fit cols columns h =
    all_each (λ (c : Column). kind_fits c.kind) columns
    (behind_gives column_of (λ (c : Column). c.name) (λ (c : ColDef). Unit {0}) (λ (c : Column). kind_fits c.kind ≡ true) (λ taken c q. column_fits taken c) [] cols columns (anything cols) h)

numbers_fit : (columns : List Column) (names : List Name) (numbers : List ℕ) → columns_named columns names ≡ Ok numbers → list_all (λ c. nat_lt c (length columns)) numbers ≡ true
numbers_fit columns names numbers h =
    all_each (λ c. nat_lt c (length columns)) numbers
    (behind_gives (new_column columns) (λ (n : ℕ). n) (λ (name : Name). Unit {0}) (λ c. nat_lt c (length columns) ≡ true) (λ taken name q. number_fits columns taken name) [] names numbers (anything names) h)

kinds_kept : (key : List ℕ) (n : ℕ) (columns : List Column)
    → list_all (λ (c : Column). kind_fits c.kind) (map (with_key key) (enumerate_from n columns)) ≡ list_all (λ (c : Column). kind_fits c.kind) columns
kinds_kept key n [] = refl
kinds_kept key n (c ∷ cs) = ap (λ b. kind_fits c.kind && b) (kinds_kept key (n + 1) cs)

length_kept : (key : List ℕ) (columns : List Column) → length (map (with_key key) (enumerate_from 0 columns)) ≡ length columns
length_kept key columns = length-map (enumerate_from 0 columns) (with_key key) ∙ length-enumerate_from 0 columns

schema_is_fit : (columns : List Column) (numbers : List ℕ) → nat_lt MAX_COLUMNS (length columns) ≡ false
    → list_all (λ (c : Column). kind_fits c.kind) columns ≡ true → list_all (λ c. nat_lt c (length columns)) numbers ≡ true
    → schema_fits (schema_with columns numbers) ≡ true
schema_is_fit columns numbers few kinds within =
    let n = length_kept numbers columns in
    let a : nat_le (length (schema_with columns numbers).cols) MAX_COLUMNS ≡ true = ap (λ k. nat_le k MAX_COLUMNS) n ∙ grind (arith, nat_tests) in
    let b = kinds_kept numbers 0 columns ∙ kinds in
    let d : list_all (λ c. nat_lt c (length (schema_with columns numbers).cols)) numbers ≡ true = ap (λ k. list_all (λ c. nat_lt c k) numbers) n ∙ within in
    rw (a, b, d) refl

-- a table that was made behind its name and the number of tables
record TableMade (catalog : Catalog) (def : TableDef) : Type 0 where
  new : not (is_taken catalog def.name) ≡ true
  room : nat_lt (length catalog.tables) MAX_TABLES ≡ true
  fits : schema_fits def.schema ≡ true

table_made : (catalog : Catalog) (name : Name) (cols : List ColDef) (key : List Name) (def : TableDef) → table_bound catalog name cols key ≡ Ok def → TableMade catalog def
table_made catalog name cols key def h =
    let whole : List Column → List ℕ → TableDef = λ columns numbers. record { name = name; schema = schema_with columns numbers } in
    let made : List Column → Result TableDef Refused = λ columns. columns_named columns key >>= (λ numbers. Ok (whole columns numbers)) in
    let few : List Column → Result TableDef Refused = λ columns. refused_where (nat_lt MAX_COLUMNS (length columns)) (limit LIMIT_OF_COLUMNS) (made columns) in
    let rest : Result TableDef Refused = columns_of cols >>= few in
    let new = passed (is_taken catalog name) (duplicate_name name) (refused_where (nat_le MAX_TABLES (length catalog.tables)) (limit LIMIT_OF_TABLES) rest) def h in
    let room = passed (nat_le MAX_TABLES (length catalog.tables)) (limit LIMIT_OF_TABLES) rest def new.after in
    let c = went (columns_of cols) few def room.after in
    let f = passed (nat_lt MAX_COLUMNS (length c.value)) (limit LIMIT_OF_COLUMNS) (made c.value) def c.after in
    let k = went (columns_named c.value key) (λ numbers. Ok (whole c.value numbers)) def f.after in
    let e = ok_is (whole c.value k.value) def k.after in
    let s = schema_is_fit c.value k.value f.holds_not (columns_fit cols c.value c.first) (numbers_fit c.value key k.value k.first) in
    let t : nat_lt (length catalog.tables) MAX_TABLES ≡ true = (let r = room.holds_not in grind (arith, nat_tests)) in
    subst (TableMade catalog) e (record { new = ap not new.holds_not; room = t; fits = s })

pub columns_and_key_fit : (catalog : Catalog) (name : Name) (cols : List ColDef) (key : List Name) (def : TableDef) → table_bound catalog name cols key ≡ Ok def → schema_fits def.schema ≡ true
columns_and_key_fit catalog name cols key def h = (table_made catalog name cols key def h).fits

table_fits : (catalog : Catalog) (name : Name) (cols : List ColDef) (key : List Name) (def : TableDef) → table_bound catalog name cols key ≡ Ok def → fits catalog (bound.CreateTable def) ≡ true
table_fits catalog name cols key def h =
    let m = table_made catalog name cols key def h in
    both (not (is_taken catalog def.name) && nat_lt (length catalog.tables) MAX_TABLES) (schema_fits def.schema)
    (both (not (is_taken catalog def.name)) (nat_lt (length catalog.tables) MAX_TABLES) m.new m.room) m.fits

-- ---- names of tables and views
there_is_table : (catalog : Catalog) (name : Name) (made b : Bound) → if_table catalog name made ≡ Ok b → (is_table catalog name ≡ true → FitsNow catalog made) → FitsNow catalog b
there_is_table catalog name made b h f =
    let p = passed (not (is_table catalog name)) (unknown_name name) (Ok made) b h in
    subst (FitsNow catalog) (ok_is made b p.after) (f (was_not (is_table catalog name) p.holds_not))

there_is_view : (catalog : Catalog) (name : Name) (made b : Bound) → if_view catalog name made ≡ Ok b → (is_view catalog name ≡ true → FitsNow catalog made) → FitsNow catalog b
there_is_view catalog name made b h f =
    let p = passed (not (is_view catalog name)) (unknown_name name) (Ok made) b h in
    subst (FitsNow catalog) (ok_is made b p.after) (f (was_not (is_view catalog name) p.holds_not))

-- ---- CREATE VIEW
view_fits : (catalog : Catalog) → columns_within catalog ≡ true → (name : Name) (q : Query) → query_literals q ≡ true → (b : Bound) → view_bound catalog name q ≡ Ok b → FitsNow catalog b
view_fits catalog within name q lit b h =
    let rest : Result Bound Refused = query_bound catalog q >>= (λ b. Ok (bound.CreateView name b)) in
    let p = passed (is_taken catalog name) (duplicate_name name) (refused_where (nat_le MAX_VIEWS (length catalog.views)) (limit LIMIT_OF_VIEWS) rest) b h in
    let r = passed (nat_le MAX_VIEWS (length catalog.views)) (limit LIMIT_OF_VIEWS) rest b p.after in
    let w = went (query_bound catalog q) (λ b. Ok (bound.CreateView name b)) b r.after in
    let f = query_fit catalog within q lit w.value w.first in
    let t : nat_lt (length catalog.views) MAX_VIEWS ≡ true = (let k = r.holds_not in grind (arith, nat_tests)) in
    let n : not (is_taken catalog name) ≡ true = ap not p.holds_not in
    subst (FitsNow catalog) (ok_is (bound.CreateView name w.value) b w.after) (rw (n, t, f) refl)

-- ---- all statements
pub statement_fits : (catalog : Catalog) → columns_within catalog ≡ true → measures_named catalog ≡ true → (x : Stmt) → statement_literals x ≡ true → (b : Bound) → statement_bound catalog x ≡ Ok b → fits catalog b ≡ true
statement_fits catalog within named (stmt.CreateTable name cols key) lit b h =
    let w = went (table_bound catalog (folded name) cols key) (λ def. Ok (bound.CreateTable def)) b h in
    subst (FitsNow catalog) (ok_is (bound.CreateTable w.value) b w.after) (table_fits catalog (folded name) cols key w.value w.first)
statement_fits catalog within named (stmt.DropTable name) lit b h = there_is_table catalog (folded name) (bound.DropTable (folded name)) b h (λ t. t)
statement_fits catalog within named (stmt.CreateView name q) lit b h = view_fits catalog within (folded name) q lit b h
statement_fits catalog within named (stmt.DropView name) lit b h = there_is_view catalog (folded name) (bound.DropView (folded name)) b h (λ t. t)
statement_fits catalog within named (stmt.Change tree) lit b h =
    let w = went (change_bound catalog tree) (λ c. Ok (bound.Change c)) b h in
    subst (FitsNow catalog) (ok_is (bound.Change w.value) b w.after) (change_fit catalog within tree lit w.value w.first)
statement_fits catalog within named (stmt.Load name file) lit b h = there_is_table catalog (folded name) (bound.Load (folded name) file) b h (λ t. t)
statement_fits catalog within named (stmt.Show name) lit b h = subst (FitsNow catalog) (ok_is (bound.Show (folded name)) b h) refl
statement_fits catalog within named (stmt.Query q) lit b h =
    let w = went (query_bound catalog q) (λ b. Ok (bound.Query b)) b h in
    subst (FitsNow catalog) (ok_is (bound.Query w.value) b w.after) (query_fit catalog within q lit w.value w.first)
statement_fits catalog within named stmt.Begin lit b h = subst (FitsNow catalog) (ok_is bound.Begin b h) refl
statement_fits catalog within named stmt.Commit lit b h = subst (FitsNow catalog) (ok_is bound.Commit b h) refl
statement_fits catalog within named stmt.Rollback lit b h = subst (FitsNow catalog) (ok_is bound.Rollback b h) refl
statement_fits catalog within named (stmt.CreateScenario name) lit b h = creation_fits catalog (folded name) b h
statement_fits catalog within named (stmt.DropScenario name) lit b h = drop_fits catalog (folded name) b h
statement_fits catalog within named (stmt.Under scenario tree) lit b h = under_fits_catalog catalog within (folded scenario) tree lit b h
statement_fits catalog within named (stmt.Compare view scenarios) lit b h = comparison_fits_catalog catalog (folded view) scenarios b h
statement_fits catalog within named (stmt.ExplainCell view measure part cell) lit b h =
    let w = went (cell_bound catalog (folded view) (folded measure) part cell) (λ asked. Ok (bound.ExplainCell asked)) b h in
    subst (FitsNow catalog) (ok_is (bound.ExplainCell w.value) b w.after) (explained_fits catalog named (folded view) (folded measure) part cell lit w.value w.first)

-- ---- what a call gave
pub answer_fits : (catalog : Catalog) (x : Stmt) (r : Result Bound (Fail Refused)) → Gives r (statement_bound catalog x) → AnswerFits catalog x r
answer_fits catalog x (Ok b) gives within named lit = statement_fits catalog within named x lit b gives
answer_fits catalog x (Err e) gives within named lit = tt
