-- INSERT, UPDATE and DELETE fit the catalog.
use Rattle.std.proofs.Common.{◌≡◌, ℕ, zero, suc, ◌<◌, List, [], ◌∷◌, map, length, true, false, not, ◌&&◌, ◌==◌, Option, Some, Result, Ok, refl, ap, ◌∙◌, subst, arith}
use Rattle.std.specs.Prelude.{nat_lt, position, slice_set, zip}
use Rattle.std.specs.List.{list_all, list_any}
use Rattle.std.specs.Option.{option_map_or}
use Rattle.std.proofs.lemmas.Bool.Decides.{nat_tests}
use Rattle.std.proofs.lemmas.List.{length-map}
use Rattle.std.proofs.lemmas.List.Quantifiers.{position-Some}
use Rattle.mq_lexer.specs.Words.{folded}
use Rattle.mq_values.specs.declared.faults.Refused.{Refused}
use Rattle.mq_values.specs.declared.value.Kind.TheVariants as sort
use Rattle.mq_values.specs.declared.value.Value.TheVariants as value
use Rattle.mq_ast.specs.declared.expressions.E.{E}
use Rattle.mq_ast.specs.declared.statements.ChangeTree.{ChangeTree}
use Rattle.mq_ast.specs.declared.statements.ChangeTree.TheVariants as tree
use Rattle.mq_ir.specs.declared.catalog.Catalog.{Catalog}
use Rattle.mq_ir.specs.declared.expression.Expr.{Expr}
use Rattle.mq_ir.specs.declared.expression.Expr.TheVariants as expr
use Rattle.mq_ir.specs.declared.statement.Change.{Change}
use Rattle.mq_ir.specs.declared.statement.Change.TheVariants as change
use Rattle.mq_ir.specs.declared.statement.Column.{Column}
use Rattle.mq_ir.specs.declared.statement.Schema.{Schema}
use Rattle.mq_ir.specs.Changes.{table_of}
use Rattle.mq_ir.specs.Fits.{fits_if_there, row_scope as fit_row_scope}
use Rattle.mq_ir.specs.FitsExpression.{expression_fits}
use Rattle.mq_ir.specs.FitsStatement.{change_fits, change_fits_schema, inserts_fit, set_fits}
use Rattle.mq_ir.specs.Names.{schema_of}
use Rattle.mq_ir.specs.Results.{◌>>=◌, each}
use Rattle.mq_ir.specs.Tables.{is_name}
use Rattle.mq_bind_scopes.specs.declared.scopes.Found.{Found}
use Rattle.mq_bind_scopes.specs.declared.scopes.Part.TheVariants as part
use Rattle.mq_bind_expr.specs.ExpressionWalk.{bound, bound_filter}
use Rattle.mq_bind_scopes.specs.Kinds.{is_assignable}
use Rattle.mq_bind_scopes.specs.Names.{Name}
use Rattle.mq_bind_expr.specs.OperatorNodes.{exprs_of}
use Rattle.mq_bind_scopes.specs.Positions.{standing}
use Rattle.mq_bind_scopes.specs.Refusals.{duplicate_name, kind_mismatch, refused_where, unknown_name}
use Rattle.mq_binder.specs.ChangeWalk.{change_bound, change_scope, delete_bound, deleted_where, goes_into, insert_bound, inserted_columns, kind_at, no_columns, placed_values, row_bound, row_with, rows_bound, rows_inserted, set_bound, set_value, sets_bound, update_bound, update_over, updated_where}
use Rattle.mq_binder.specs.FromWalk.{table_called}
use Rattle.mq_binder.specs.TableWalk.{column_called, new_column}
use Rattle.mq_binder.specs.WithinLimits.{columns_within}
use Rattle.mq_binder.specs.Literals.{literals_fit, literals_if_any}
use Rattle.mq_binder.specs.StatementLiterals.{change_literals}
use Rattle.mq_binder.proofs.FitsLemmas.{fits_lit}
use Rattle.mq_binder.proofs.FromLemmas.{RowColumnFits, RowsFit, SchemaWithin, new_columns, table_is, where_fits}
use Rattle.mq_binder.proofs.PlainLemmas.{value_found}
use Rattle.mq_binder.proofs.FitStepLemmas.{Each, all_each, behind_gives, both, each_all, each_gives, left_of, ok_is, passed, right_of, some_is, went}

-- ---- rows of INSERT
set_each : {A : Type 0} (P : A → Type 0) (xs : List A) (n : ℕ) (y : A) → Each P xs → P y → Each P (slice_set xs n y)
set_each P [] n y h k = tt
set_each P (x ∷ xs) zero y h k = (k, h.1)
set_each P (x ∷ xs) (suc n) y h k = (h.0, set_each P xs n y h.1 k)

set_long : {A : Type 0} (xs : List A) (n : ℕ) (y : A) → length (slice_set xs n y) ≡ length xs
set_long [] n y = refl
set_long (x ∷ xs) zero y = refl
set_long (x ∷ xs) (suc n) y = ap suc (set_long xs n y)

abbrev Bare : Expr → Type 0
Bare e = expression_fits (fit_row_scope []) e ≡ true

placed_fit : (vs : List (ℕ × Expr)) (row : List Expr) → Each (λ (v : ℕ × Expr). Bare v.1) vs → Each Bare row → Each Bare (placed_values vs row)
placed_fit [] row h k = k
placed_fit (v ∷ vs) row h k = placed_fit vs (slice_set row v.0 v.1) h.1 (set_each Bare row v.0 v.1 k h.0)

placed_long : (vs : List (ℕ × Expr)) (row : List Expr) → length (placed_values vs row) ≡ length row
placed_long [] row = refl
placed_long (v ∷ vs) row = placed_long vs (slice_set row v.0 v.1) ∙ set_long row v.0 v.1

zipped : (numbers : List ℕ) (es : List Expr) → Each Bare es → Each (λ (v : ℕ × Expr). Bare v.1) (zip numbers es)
zipped [] es h = tt
zipped (n ∷ ns) [] h = tt
zipped (n ∷ ns) (e ∷ es) h = (h.0, zipped ns es h.1)

nulls_fit : (cols : List Column) → Each Bare (map (λ (c : Column). expr.Lit value.Null) cols)
nulls_fit [] = tt
nulls_fit (c ∷ cols) = (fits_lit (fit_row_scope []) value.Null, nulls_fit cols)

pub no_rows : RowsFit [] no_columns
no_rows = record { columns = tt; model = refl }

exprs_bare : (fs : List Found) → Each (λ (f : Found). Bare f.e) fs → Each Bare (exprs_of fs)
exprs_bare [] h = tt
exprs_bare (f ∷ fs) h = (h.0, exprs_bare fs h.1)

eq_of : (n m : ℕ) → n ≡ m → (n == m) ≡ true
eq_of n m h = grind (arith, nat_tests)

row_fits : (schema : Schema) (numbers : List ℕ) (es : List E) → list_all literals_fit es ≡ true → (row : List Expr) → row_bound schema numbers es ≡ Ok row → inserts_fit schema row ≡ true
row_fits schema numbers es lit row h =
    let done : List Found → Result (List Expr) Refused = λ fs. refused_where (not (list_all (goes_into schema) (zip numbers fs))) kind_mismatch (Ok (row_with schema numbers (exprs_of fs))) in
    let p = passed (not (length es == length numbers)) kind_mismatch (each (λ (e : E). bound no_columns e (standing part.Row)) es >>= done) row h in
    let w = went (each (λ (e : E). bound no_columns e (standing part.Row)) es) done row p.after in
    let q = passed (not (list_all (goes_into schema) (zip numbers w.value))) kind_mismatch (Ok (row_with schema numbers (exprs_of w.value))) row w.after in
    let found =
    each_gives (λ (e : E). bound no_columns e (standing part.Row)) (λ (e : E). literals_fit e ≡ true) (λ (f : Found). Bare f.e)
    (λ e l f g. (value_found [] no_columns no_rows e l f g).0) es w.value (each_all literals_fit es lit) w.first in
    let nulls = map (λ (c : Column). expr.Lit value.Null) schema.cols in
    let made = row_with schema numbers (exprs_of w.value) in
    let fit = all_each (expression_fits (fit_row_scope [])) made (placed_fit (zip numbers (exprs_of w.value)) nulls (zipped numbers (exprs_of w.value) (exprs_bare w.value found)) (nulls_fit schema.cols)) in
    let long = eq_of (length made) (length schema.cols) (placed_long (zip numbers (exprs_of w.value)) nulls ∙ length-map schema.cols (λ (c : Column). expr.Lit value.Null)) in
    subst (λ (r : List Expr). inserts_fit schema r ≡ true) (ok_is made row q.after) (both (length made == length schema.cols) (list_all (expression_fits (fit_row_scope [])) made) long fit)

rows_fit : (schema : Schema) (cols : Option (List Name)) (rows : List (List E)) → list_all (list_all literals_fit) rows ≡ true → (es : List (List Expr)) → rows_bound schema cols rows ≡ Ok es → list_all (inserts_fit schema) es ≡ true
rows_fit schema cols rows lit es h =
    let w = went (inserted_columns schema cols) (λ numbers. each (row_bound schema numbers) rows) es h in
    all_each (inserts_fit schema) es
    (each_gives (row_bound schema w.value) (λ (row : List E). list_all literals_fit row ≡ true) (λ (row : List Expr). inserts_fit schema row ≡ true) (row_fits schema w.value) rows es (each_all (list_all literals_fit) rows lit) w.after)

-- a change of a table that is there
abbrev FitsNow : Catalog → Change → Type 0
FitsNow catalog c = change_fits catalog c ≡ true

with_schema : (catalog : Catalog) (c : Change) (schema : Schema) → schema_of catalog (table_of c) ≡ Some schema → change_fits_schema schema c ≡ true → FitsNow catalog c
with_schema catalog c schema h k = ap (λ o. option_map_or (λ (s : Schema). change_fits_schema s c) o false) h ∙ k

insert_fits : (catalog : Catalog) → columns_within catalog ≡ true → (name : Name) (cols : Option (List Name)) (rows : List (List E)) → list_all (list_all literals_fit) rows ≡ true
    → (c : Change) → insert_bound catalog name cols rows ≡ Ok c → FitsNow catalog c
insert_fits catalog within name cols rows lit c h =
    let w = went (table_called catalog name) (λ schema. rows_inserted name schema cols rows) c h in
    let v = went (rows_bound w.value cols rows) (λ es. Ok (change.Insert name es)) c w.after in
    let t = table_is catalog name w.value w.first within in
    subst (FitsNow catalog) (ok_is (change.Insert name v.value) c v.after) (with_schema catalog (change.Insert name v.value) w.value t.is (rows_fit w.value cols rows lit v.value v.first))

-- ---- a row of the table that is changed
rows_of_table : (table : Name) (schema : Schema) → SchemaWithin schema → RowsFit (length schema.cols ∷ []) (change_scope table schema)
rows_of_table table schema within = record {
  columns = new_columns (RowColumnFits (length schema.cols ∷ [])) 0 (length schema.cols) 0 schema.cols (omega arith) within (λ k c l w. record { below = l; within = w });
  model = refl;
}

pub number_fits : (columns : List Column) (taken : List ℕ) (name : Name) (n : ℕ) → new_column columns taken name ≡ Ok n → nat_lt n (length columns) ≡ true
number_fits columns taken name n h =
    let none : Column = record { name = []; kind = sort.Int; not_null = false } in
    let w = went (column_called columns (folded name)) (λ n. refused_where (list_any (λ m. m == n) taken) (duplicate_name (folded name)) (Ok n)) n h in
    let fine = passed (list_any (λ m. m == w.value) taken) (duplicate_name (folded name)) (Ok w.value) n w.after in
    let e : w.value ≡ n = ok_is w.value n fine.after in
    let found = some_is (position (λ (c : Column). is_name (folded name) c.name) columns) (unknown_name (folded name)) w.value w.first in
    let l : w.value < length columns = (position-Some (λ (c : Column). is_name (folded name) c.name) columns w.value none found).0 in
    let m : n < length columns = subst (λ z. z < length columns) e l in
    grind (arith, nat_tests)

one_set : (table : Name) (schema : Schema) → SchemaWithin schema → (taken : List ℕ) (x : Name × E) → literals_fit x.1 ≡ true → (y : ℕ × Expr) → set_bound schema (change_scope table schema) taken x ≡ Ok y → set_fits schema y ≡ true
one_set table schema within taken x lit y h =
    let scope = change_scope table schema in
    let w = went (new_column schema.cols taken x.0) (λ n. set_value schema scope n x.1) y h in
    let done : Found → Result (ℕ × Expr) Refused = λ f. refused_where (not (is_assignable (kind_at schema w.value) f.kind)) kind_mismatch (Ok (w.value, f.e)) in
    let v = went (bound scope x.1 (standing part.Row)) done y w.after in
    let p = passed (not (is_assignable (kind_at schema w.value) v.value.kind)) kind_mismatch (Ok (w.value, v.value.e)) y v.after in
    let f = value_found (length schema.cols ∷ []) scope (rows_of_table table schema within) x.1 lit v.value v.first in
    subst (λ (y : ℕ × Expr). set_fits schema y ≡ true) (ok_is (w.value, v.value.e) y p.after)
    (both (nat_lt w.value (length schema.cols)) (expression_fits (fit_row_scope (length schema.cols ∷ [])) v.value.e) (number_fits schema.cols taken x.0 w.value w.first) f.0)

sets_fit : (table : Name) (schema : Schema) → SchemaWithin schema → (sets : List (Name × E)) → list_all (λ (set : Name × E). literals_fit set.1) sets ≡ true → (es : List (ℕ × Expr))
    → sets_bound schema (change_scope table schema) sets ≡ Ok es → list_all (set_fits schema) es ≡ true
sets_fit table schema within sets lit es h =
    all_each (set_fits schema) es
    (behind_gives (set_bound schema (change_scope table schema)) (λ (s : ℕ × Expr). s.0) (λ (x : Name × E). literals_fit x.1 ≡ true) (λ (y : ℕ × Expr). set_fits schema y ≡ true)
    (one_set table schema within) [] sets es (each_all (λ (set : Name × E). literals_fit set.1) sets lit) h)

update_fits : (catalog : Catalog) → columns_within catalog ≡ true → (name : Name) (sets : List (Name × E)) (filter : Option E) → (list_all (λ (set : Name × E). literals_fit set.1) sets && literals_if_any filter) ≡ true
    → (c : Change) → update_bound catalog name sets filter ≡ Ok c → FitsNow catalog c
update_fits catalog within name sets filter lit c h =
    let w = went (table_called catalog name) (λ schema. update_over name schema sets filter (change_scope name schema)) c h in
    let scope = change_scope name w.value in
    let v = went (sets_bound w.value scope sets) (λ es. updated_where name es filter scope) c w.after in
    let u = went (bound_filter scope (standing part.Row) filter) (λ condition. Ok (change.Update name v.value condition)) c v.after in
    let t = table_is catalog name w.value w.first within in
    let set_lits = list_all (λ (set : Name × E). literals_fit set.1) sets in
    let rows = rows_of_table name w.value t.within in
    let a = sets_fit name w.value t.within sets (left_of set_lits (literals_if_any filter) lit) v.value v.first in
    let f = where_fits (length w.value.cols ∷ []) scope rows filter (right_of set_lits (literals_if_any filter) lit) u.value u.first in
    subst (FitsNow catalog) (ok_is (change.Update name v.value u.value) c u.after)
    (with_schema catalog (change.Update name v.value u.value) w.value t.is (both (list_all (set_fits w.value) v.value) (fits_if_there (fit_row_scope (length w.value.cols ∷ [])) u.value) a f))

delete_fits : (catalog : Catalog) → columns_within catalog ≡ true → (name : Name) (filter : Option E) → literals_if_any filter ≡ true → (c : Change) → delete_bound catalog name filter ≡ Ok c → FitsNow catalog c
delete_fits catalog within name filter lit c h =
    let w = went (table_called catalog name) (λ schema. deleted_where name filter (change_scope name schema)) c h in
    let u = went (bound_filter (change_scope name w.value) (standing part.Row) filter) (λ condition. Ok (change.Delete name condition)) c w.after in
    let t = table_is catalog name w.value w.first within in
    let f = where_fits (length w.value.cols ∷ []) (change_scope name w.value) (rows_of_table name w.value t.within) filter lit u.value u.first in
    subst (FitsNow catalog) (ok_is (change.Delete name u.value) c u.after) (with_schema catalog (change.Delete name u.value) w.value t.is f)

-- ---- all changes
pub change_fit : (catalog : Catalog) → columns_within catalog ≡ true → (x : ChangeTree) → change_literals x ≡ true → (c : Change) → change_bound catalog x ≡ Ok c → change_fits catalog c ≡ true
change_fit catalog within (tree.Insert name cols rows) lit c h = insert_fits catalog within (folded name) cols rows lit c h
change_fit catalog within (tree.Update name sets filter) lit c h = update_fits catalog within (folded name) sets filter lit c h
change_fit catalog within (tree.Delete name filter) lit c h = delete_fits catalog within (folded name) filter lit c h
