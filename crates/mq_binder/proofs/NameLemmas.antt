-- Names are compared in capital letters, and an alias hides the name that it stands for.
use Rattle.std.proofs.Common.{◌≡◌, ◌≢◌, ℕ, zero, suc, List, [], ◌∷◌, ◌++◌, drop, get_or, map, Bool, true, false, ◌&&◌, ◌==◌, Option, Some, None, Result, Ok, Err, nat_eq, refl, sym, ap, ◌∙◌}
use Rattle.std.specs.Cmp.Lexicographic.{pointwise}
use Rattle.std.specs.List.{find, list_any, position}
use Rattle.std.specs.Option.{ok_or, option_and_then, option_map, option_map_or, unwrap_or}
use Rattle.std.proofs.lemmas.Bool.{eqb-true}
use Rattle.std.proofs.lemmas.List.Quantifiers.{position-Some}
use Rattle.mq_lexer.specs.Words.{folded}
use Rattle.mq_values.specs.declared.faults.Refused.{Refused}
use Rattle.mq_values.specs.declared.limits.TheConstants.{MAX_COMPARED}
use Rattle.mq_ast.specs.declared.expressions.E.{E}
use Rattle.mq_ast.specs.declared.expressions.Path.{Path}
use Rattle.mq_ast.specs.declared.queries.FromItem.{FromItem}
use Rattle.mq_ast.specs.declared.queries.Sel.{Sel}
use Rattle.mq_ast.specs.declared.statements.ChangeTree.{ChangeTree}
use Rattle.mq_ast.specs.declared.statements.ChangeTree.TheVariants as tree
use Rattle.mq_ast.specs.declared.statements.Stmt.{Stmt}
use Rattle.mq_ast.specs.declared.statements.Stmt.TheVariants as stmt
use Rattle.mq_ir.specs.declared.catalog.Catalog.{Catalog}
use Rattle.mq_ir.specs.declared.limit_numbers.TheConstants.{LIMIT_OF_COMPARED}
use Rattle.mq_ir.specs.declared.statement.Bound.TheVariants as bound
use Rattle.mq_ir.specs.declared.statement.Change.{Change}
use Rattle.mq_ir.specs.declared.statement.Column.{Column}
use Rattle.mq_ir.specs.Results.{◌>>=◌, each}
use Rattle.mq_ir.specs.Tables.{is_name}
use Rattle.mq_bind_scopes.specs.declared.scopes.Named.{Named}
use Rattle.mq_bind_scopes.specs.declared.scopes.Position.{Position}
use Rattle.mq_bind_scopes.specs.declared.scopes.RowColumn.{RowColumn}
use Rattle.mq_bind_scopes.specs.declared.scopes.Scope.{Scope}
use Rattle.mq_bind_expr.specs.Forms.{item_name, plain_path}
use Rattle.mq_binder.specs.ChangeWalk.{delete_bound, insert_bound, update_bound}
use Rattle.mq_binder.specs.FromWalk.{alias_of}
use Rattle.mq_binder.specs.ListWalk.{limited}
use Rattle.mq_bind_scopes.specs.Names.{Name, column_in, is_called, is_meant, item_called, item_seen, sole}
use Rattle.mq_bind_scopes.specs.Refusals.{duplicate_name, refused_where, unknown_name}
use Rattle.mq_binder.specs.ScenarioWalk.{comparison_bound, known_scenario, scenario_created, scenario_dropped, scenario_named, under_bound}
use Rattle.mq_binder.specs.StatementLaws.{AliasHidesColumn, AliasHidesTable, ChangesByCapitals, ColumnsByCapitals, MeasuresByCapitals, PathsByCapitals, ScenariosByCapitals, TablesByCapitals}
use Rattle.mq_binder.specs.StatementWalk.{explanation_bound, if_table, if_view, view_bound}
use Rattle.mq_bind_expr.specs.Steps.{each_behind}
use Rattle.mq_binder.specs.TableWalk.{column_called, new_column, table_bound}

-- the same where each value goes on alike
alike : {A B E : Type 0} (r : Result A E) (f g : A → Result B E) → ((x : A) → f x ≡ g x) → (r >>= f) ≡ (r >>= g)
alike (Ok x) f g h = h x
alike (Err fault) f g h = refl

in_capitals : (scope : Scope) (at : Position) (x y : Option Name) (n : Name) → option_map folded x ≡ option_map folded y → column_in scope at x n ≡ column_in scope at y n
in_capitals scope at None None n h = refl
in_capitals scope at None (Some q) n h = absurd cc
in_capitals scope at (Some p) None n h = absurd cc
in_capitals scope at (Some p) (Some q) n h =
    let e : folded p ≡ folded q = ap (λ (o : Option Name). unwrap_or o (folded q)) h in
    ap (λ (alias : Name). item_called scope at alias >>= (λ item. sole (is_meant at (Some item) n) n scope.columns)) e

pub paths_by_capitals : (scope : Scope) (at : Position) (a b : Path) → PathsByCapitals scope at a b
paths_by_capitals scope at a b h = in_capitals scope at a.first b.first (folded a.last) h.first ∙ ap (column_in scope at b.first) h.last

-- a column by its name in capital letters
abbrev by_name : List Column → List ℕ → Name → Result ℕ Refused
by_name columns taken name = column_called columns name >>= (λ n. refused_where (list_any (λ m. m == n) taken) (duplicate_name name) (Ok n))

named_alike : (columns : List Column) (taken : List ℕ) (names others : List Name) → map folded names ≡ map folded others
    → each_behind (new_column columns) (λ n. n) taken names ≡ each_behind (new_column columns) (λ n. n) taken others
named_alike columns taken [] [] h = refl
named_alike columns taken [] (o ∷ os) h = absurd cc
named_alike columns taken (n ∷ ns) [] h = absurd cc
named_alike columns taken (n ∷ ns) (o ∷ os) h =
    let e : folded n ≡ folded o = ap (λ (l : List Name). get_or l 0 (folded o)) h in
    let t : map folded ns ≡ map folded os = ap (λ (l : List Name). drop 1 l) h in
    ap (λ (name : Name). by_name columns taken name >>= (λ y. each_behind (new_column columns) (λ n. n) (taken ++ y ∷ []) ns >>= (λ ys. Ok (y ∷ ys)))) e
    ∙ alike (new_column columns taken o) (λ y. each_behind (new_column columns) (λ n. n) (taken ++ y ∷ []) ns >>= (λ ys. Ok (y ∷ ys)))
    (λ y. each_behind (new_column columns) (λ n. n) (taken ++ y ∷ []) os >>= (λ ys. Ok (y ∷ ys)))
    (λ y. ap (λ (r : Result (List ℕ) Refused). r >>= (λ ys. Ok (y ∷ ys))) (named_alike columns (taken ++ y ∷ []) ns os t))

pub columns_by_capitals : (columns : List Column) (names others : List Name) → ColumnsByCapitals columns names others
columns_by_capitals columns names others h = named_alike columns [] names others h

pub changes_by_capitals : (catalog : Catalog) (c : ChangeTree) (a b : Name) → ChangesByCapitals catalog c a b
changes_by_capitals catalog (tree.Insert old cols rows) a b h = ap (λ (n : Name). insert_bound catalog n cols rows) h
changes_by_capitals catalog (tree.Update old sets filter) a b h = ap (λ (n : Name). update_bound catalog n sets filter) h
changes_by_capitals catalog (tree.Delete old filter) a b h = ap (λ (n : Name). delete_bound catalog n filter) h

pub tables_by_capitals : (catalog : Catalog) (s : Stmt) (a b : Name) → TablesByCapitals catalog s a b
tables_by_capitals catalog (stmt.CreateTable old cols key) a b h = ap (λ (n : Name). table_bound catalog n cols key >>= (λ def. Ok (bound.CreateTable def))) h
tables_by_capitals catalog (stmt.DropTable old) a b h = ap (λ (n : Name). if_table catalog n (bound.DropTable n)) h
tables_by_capitals catalog (stmt.CreateView old q) a b h = ap (λ (n : Name). view_bound catalog n q) h
tables_by_capitals catalog (stmt.DropView old) a b h = ap (λ (n : Name). if_view catalog n (bound.DropView n)) h
tables_by_capitals catalog (stmt.Change c) a b h =
    ap (λ (r : Result Change Refused). r >>= (λ change. Ok (bound.Change change))) (changes_by_capitals catalog c a b h)
tables_by_capitals catalog (stmt.Load old file) a b h = ap (λ (n : Name). if_table catalog n (bound.Load n file)) h
tables_by_capitals catalog (stmt.Show old) a b h = ap (λ (n : Name). Ok (bound.Show n)) h
tables_by_capitals catalog (stmt.Query q) a b h = refl
tables_by_capitals catalog stmt.Begin a b h = refl
tables_by_capitals catalog stmt.Commit a b h = refl
tables_by_capitals catalog stmt.Rollback a b h = refl
tables_by_capitals catalog (stmt.CreateScenario old) a b h = ap (λ (n : Name). scenario_created catalog n) h
tables_by_capitals catalog (stmt.DropScenario old) a b h = ap (λ (n : Name). scenario_dropped catalog n) h
tables_by_capitals catalog (stmt.Under old c) a b h = ap (λ (n : Name). under_bound catalog n c) h
tables_by_capitals catalog (stmt.Compare old scenarios) a b h = ap (λ (n : Name). comparison_bound catalog n scenarios) h
tables_by_capitals catalog (stmt.ExplainCell old measure part cell) a b h =
    ap (λ (n : Name). explanation_bound catalog n (folded measure) part cell) h

each_alike : (catalog : Catalog) (names others : List Name) → map folded names ≡ map folded others
    → each (scenario_named catalog) names ≡ each (scenario_named catalog) others
each_alike catalog [] [] h = refl
each_alike catalog [] (o ∷ os) h = absurd cc
each_alike catalog (n ∷ ns) [] h = absurd cc
each_alike catalog (n ∷ ns) (o ∷ os) h =
    let e : folded n ≡ folded o = ap (λ (l : List Name). get_or l 0 (folded o)) h in
    let t : map folded ns ≡ map folded os = ap (λ (l : List Name). drop 1 l) h in
    ap (λ (name : Name). known_scenario catalog name (Ok name) >>= (λ y. each (scenario_named catalog) ns >>= (λ ys. Ok (y ∷ ys)))) e
    ∙ ap (λ (r : Result (List Name) Refused). scenario_named catalog o >>= (λ y. r >>= (λ ys. Ok (y ∷ ys)))) (each_alike catalog ns os t)

pub scenarios_by_capitals : (catalog : Catalog) (names others : List Name) → ScenariosByCapitals catalog names others
scenarios_by_capitals catalog names others h =
    ap (λ (r : Result (List Name) Refused). r >>= limited MAX_COMPARED LIMIT_OF_COMPARED) (each_alike catalog names others h)

pub measures_by_capitals : (catalog : Catalog) (view : Name) (part cell : List E) (a b : Name) → MeasuresByCapitals catalog view part cell a b
measures_by_capitals catalog view part cell a b h = ap (λ (n : Name). explanation_bound catalog (folded view) n part cell) h

-- names that are not the same
name_is : (a b : Name) → is_name a b ≡ true → a ≡ b
name_is [] [] h = refl
name_is [] (y ∷ ys) h = absurd (cc)
name_is (x ∷ xs) [] h = absurd (cc)
name_is (x ∷ xs) (y ∷ ys) h = by (nat_eq x y) refl (name_is xs ys) h
  where
    by : (b : Bool) → nat_eq x y ≡ b → (is_name xs ys ≡ true → xs ≡ ys) → (b && pointwise nat_eq xs ys) ≡ true → x ∷ xs ≡ y ∷ ys
    by true e k g = let p : x ≡ y = eqb-true x y e in let q : xs ≡ ys = k g in cc
    by false e k g = absurd (cc)

name_is_not : (a b : Name) → b ≢ a → is_name a b ≡ false
name_is_not a b n = by (is_name a b) refl
  where
    by : (t : Bool) → is_name a b ≡ t → t ≡ false
    by true e = absurd (n (sym (name_is a b e)))
    by false e = refl

at_single : {A : Type 0} (x : A) (i : ℕ) → get_or (x ∷ []) i x ≡ x
at_single x zero = refl
at_single x (suc i) = refl

only_other : {A : Type 0} (p : A → Bool) (x : A) → p x ≡ false → position p (x ∷ []) ≡ None
only_other p x h = by (position p (x ∷ [])) refl
  where
    by : (o : Option ℕ) → position p (x ∷ []) ≡ o → o ≡ None
    by None e = refl
    by (Some i) e =
        let f = position-Some p (x ∷ []) i x e in
        let t : true ≡ false = sym f.1 ∙ ap p (at_single x i) ∙ h in
        absurd cc

pub alias_hides_table : (item : FromItem) (alias : Name) (columns : List RowColumn) (at : Position) (last : Name) → AliasHidesTable item alias columns at last
alias_hides_table item alias columns at last h n =
    let e : alias_of item ≡ folded alias = ap (λ (o : Option Name). option_map_or folded o (folded item.table)) h in
    let p : position (is_name (folded item.table)) (alias_of item ∷ []) ≡ None =
    only_other (is_name (folded item.table)) (alias_of item) (ap (is_name (folded item.table)) e ∙ name_is_not (folded item.table) (folded alias) n) in
    ap (λ (o : Option ℕ). (ok_or o (unknown_name (folded item.table)) >>= item_seen_at) >>= (λ i. sole (is_meant at (Some i) (folded last)) (folded last) columns)) p
  where
    item_seen_at : ℕ → Result ℕ Refused
    item_seen_at i = item_seen at i (folded item.table)

pub alias_hides_column : (sel : Sel) (path : Path) (alias : Name) (column : Named) → AliasHidesColumn sel path alias column
alias_hides_column sel path alias column h a n c =
    let e : column.name ≡ folded alias =
    ap (λ (o : Option Name). unwrap_or o column.name) (sym c ∙ ap (λ (o : Option Name). item_name o (plain_path sel.e)) a) in
    let p : position (is_called (folded path.last)) (column ∷ []) ≡ None =
    only_other (is_called (folded path.last)) column (ap (is_name (folded path.last)) e ∙ name_is_not (folded path.last) (folded alias) n) in
    ap (λ (o : Option ℕ). ok_or (option_and_then (λ k. option_map (λ (d : Named). (k, d.kind)) (find (is_called (folded path.last)) (column ∷ []))) o) (unknown_name (folded path.last))) p
