-- The rows of a query: its FROM items are tables of the catalog, and what its names mean are columns of these.
use Rattle.std.proofs.Common.{◌≡◌, ℕ, zero, suc, ◌+◌, ◌<◌, ◌≤◌, List, [], ◌∷◌, ◌++◌, map, length, take, Bool, true, false, not, ◌&&◌, ◌||◌, ◌==◌, cond, Option, Some, None, Result, Ok, refl, sym, ap, ◌∙◌, subst, arith}
use Rattle.std.specs.Prelude.{filter, find, nat_le, nat_lt, slice_index_or}
use Rattle.std.specs.List.{enumerate_from, list_all, list_any}
use Rattle.std.specs.Option.{ok_or, option_map, option_map_or}
use Rattle.std.proofs.lemmas.Bool.Decides.{nat_tests}
use Rattle.std.proofs.lemmas.List.{length-append, length-map, map-append}
use Rattle.std.proofs.lemmas.List.Folds.{list_all-append}
use Rattle.mq_lexer.specs.Words.{folded}
use Rattle.mq_values.specs.declared.faults.Refused.{Refused}
use Rattle.mq_values.specs.declared.limits.TheConstants.{MAX_FROM_ITEMS}
use Rattle.mq_ast.specs.declared.expressions.E.{E}
use Rattle.mq_ast.specs.declared.expressions.Path.{Path}
use Rattle.mq_ast.specs.declared.queries.FromItem.{FromItem}
use Rattle.mq_ast.specs.declared.queries.Plain.{Plain}
use Rattle.mq_ast.specs.declared.queries.Sel.{Sel}
use Rattle.mq_ir.specs.declared.catalog.Catalog.{Catalog}
use Rattle.mq_ir.specs.declared.catalog.TableEntry.{TableEntry}
use Rattle.mq_ir.specs.declared.expression.Expr.{Expr}
use Rattle.mq_ir.specs.declared.limit_numbers.TheConstants.{LIMIT_OF_FROM_ITEMS}
use Rattle.mq_ir.specs.declared.query.ColRef.{ColRef}
use Rattle.mq_ir.specs.declared.statement.Column.{Column as TableColumn}
use Rattle.mq_ir.specs.declared.statement.Schema.{Schema}
use Rattle.mq_ir.specs.Fits.{fits_if_there, from_fits, group_fits, ons_fit, row_scope as fit_row_scope}
use Rattle.mq_ir.specs.FitsExpression.{Scope as FitScope, expression_fits}
use Rattle.mq_ir.specs.Names.{is_table, schema_of, width_of}
use Rattle.mq_ir.specs.Results.{◌>>=◌, each, each_in_turn}
use Rattle.mq_ir.specs.Tables.{is_name}
use Rattle.mq_bind_scopes.specs.declared.scopes.ModelNames.{ModelNames}
use Rattle.mq_bind_scopes.specs.declared.scopes.Part.TheVariants as part
use Rattle.mq_bind_scopes.specs.declared.scopes.Position.{Position}
use Rattle.mq_bind_scopes.specs.declared.scopes.RowColumn.{RowColumn}
use Rattle.mq_bind_scopes.specs.declared.scopes.Scope.{Scope}
use Rattle.mq_bind_expr.specs.ExpressionWalk.{bound, bound_filter, needs_condition}
use Rattle.mq_bind_scopes.specs.Kinds.{of_column}
use Rattle.mq_bind_scopes.specs.Misuses.{in_condition}
use Rattle.mq_bind_scopes.specs.Names.{Column, Name, column_in, column_named, is_in_sight, is_meant, is_of_item, item_called, sole}
use Rattle.mq_bind_expr.specs.OperatorNodes.{is_condition_found}
use Rattle.mq_bind_scopes.specs.Positions.{standing, standing_on}
use Rattle.mq_bind_scopes.specs.Refusals.{duplicate_name, kind_mismatch, limit, refused_where, unknown_name}
use Rattle.mq_bind_expr.specs.Steps.{each_from}
use Rattle.mq_binder.specs.declared.found.Base.{Base}
use Rattle.mq_binder.specs.declared.found.Sources.{Sources}
use Rattle.mq_binder.specs.FromWalk.{alias_of, base_of, base_over, column_of_item, columns_of_item, grouping, item_seen, no_model, no_sources, on_bound, row_scope, sources_of, table_called, with_item}
use Rattle.mq_binder.specs.WithinLimits.{column_is_within, columns_within, table_is_within}
use Rattle.mq_binder.specs.Literals.{literals_fit, literals_if_any}
use Rattle.mq_binder.specs.StatementLiterals.{plain_literals}
use Rattle.mq_binder.proofs.KindLemmas.{Within}
use Rattle.mq_binder.proofs.SoundLemmas.{fits_of}
use Rattle.mq_binder.proofs.StandLemmas.{ColumnFits, ColumnsFit, ModelWithin, Stands, find_each, fit_scope, is_inside}
use Rattle.mq_binder.proofs.FitStepLemmas.{Each, EachFrom, all_each, both, each_all, each_gives, from_gives, from_long, just_is, left_of, ok_is, passed, right_of, some_is, went}
use Rattle.mq_binder.proofs.WalkLemmas.{expr_fits}

-- ---- lists
pub each_append : {A : Type 0} (P : A → Type 0) (xs ys : List A) → Each P xs → Each P ys → Each P (xs ++ ys)
each_append P [] ys h k = k
each_append P (x ∷ xs) ys h k = (h.0, each_append P xs ys h.1 k)

pub each_then : {A : Type 0} (P Q : A → Type 0) (xs : List A) → ((x : A) → P x → Q x) → Each P xs → Each Q xs
each_then P Q [] f h = tt
each_then P Q (x ∷ xs) f h = (f x h.0, each_then P Q xs f h.1)

pub find_holds : {A : Type 0} (test : A → Bool) (xs : List A) (x : A) → find test xs ≡ Some x → test x ≡ true
find_holds test [] x h = absurd cc
find_holds test (y ∷ ys) x h = by (test y) refl (find_holds test ys x) h
  where
    by : (b : Bool) → test y ≡ b → (find test ys ≡ Some x → test x ≡ true) → cond b (Some y) (find test ys) ≡ Some x → test x ≡ true
    by true e rest g = subst (λ z. test z ≡ true) (just_is y x g) e
    by false e rest g = rest g

pub find_any : {A : Type 0} (test : A → Bool) (xs : List A) (x : A) → find test xs ≡ Some x → list_any test xs ≡ true
find_any test [] x h = absurd cc
find_any test (y ∷ ys) x h = by (test y) (find_any test ys x) h
  where
    by : (b : Bool) → (find test ys ≡ Some x → list_any test ys ≡ true) → cond b (Some y) (find test ys) ≡ Some x → (b || list_any test ys) ≡ true
    by true rest g = refl
    by false rest g = rest g

-- ---- widths
no_width : {P : Type 0} (c : ℕ) → nat_lt c 0 ≡ true → P
no_width c h = absurd (grind (arith, nat_tests))

wider_list : (ws vs : List ℕ) (i c : ℕ) → nat_lt c (slice_index_or ws i 0) ≡ true → nat_lt c (slice_index_or (ws ++ vs) i 0) ≡ true
wider_list [] vs i c h = no_width c h
wider_list (w ∷ ws) vs zero c h = h
wider_list (w ∷ ws) vs (suc i) c h = wider_list ws vs i c h

at_end : (ws : List ℕ) (w : ℕ) → slice_index_or (ws ++ w ∷ []) (length ws) 0 ≡ w
at_end [] w = refl
at_end (x ∷ xs) w = at_end xs w

within_take : (k : ℕ) (ws : List ℕ) (i c : ℕ) → i < k → nat_lt c (slice_index_or ws i 0) ≡ true → nat_lt c (slice_index_or (take k ws) i 0) ≡ true
within_take zero ws i c l h = absurd (omega (arith, l))
within_take (suc k) [] i c l h = no_width c h
within_take (suc k) (w ∷ ws) zero c l h = h
within_take (suc k) (w ∷ ws) (suc i) c l h = within_take k ws i c (omega (arith, l)) h

-- ---- tables of a catalog
abbrev pub SchemaWithin : Schema → Type 0
SchemaWithin schema = list_all column_is_within schema.cols ≡ true

abbrev EntryWithin : TableEntry → Type 0
EntryWithin entry = table_is_within entry ≡ true

named_schema : (entries : List TableEntry) (name : Name) (schema : Schema) → option_map (λ (entry : TableEntry). entry.schema) (find (λ (entry : TableEntry). is_name entry.name name) entries) ≡ Some schema
    → Each EntryWithin entries → SchemaWithin schema × (list_any (λ (entry : TableEntry). is_name entry.name name) entries ≡ true)
named_schema entries name schema h within = by (find (λ (entry : TableEntry). is_name entry.name name) entries) refl h
  where
    by : (o : Option TableEntry) → find (λ (entry : TableEntry). is_name entry.name name) entries ≡ o → option_map (λ (entry : TableEntry). entry.schema) o ≡ Some schema
        → SchemaWithin schema × (list_any (λ (entry : TableEntry). is_name entry.name name) entries ≡ true)
    by None e g = absurd cc
    by (Some entry) e g = (
      subst SchemaWithin (just_is entry.schema schema g) (find_each EntryWithin (λ (entry : TableEntry). is_name entry.name name) entries entry e within),
      find_any (λ (entry : TableEntry). is_name entry.name name) entries entry e,
    )

pub record TableIs (catalog : Catalog) (name : Name) (schema : Schema) : Type 0 where
  pub there : is_table catalog name ≡ true
  pub within : SchemaWithin schema
  pub is : schema_of catalog name ≡ Some schema
  pub wide : width_of catalog name ≡ length schema.cols

pub table_is : (catalog : Catalog) (name : Name) (schema : Schema) → table_called catalog name ≡ Ok schema → columns_within catalog ≡ true → TableIs catalog name schema
table_is catalog name schema h within =
    let e = some_is (schema_of catalog name) (unknown_name name) schema h in
    let g = named_schema catalog.tables name schema e (each_all table_is_within catalog.tables within) in
    record {
      there = g.1;
      within = g.0;
      is = e;
      wide = ap (λ o. option_map_or (λ (s : Schema). length s.cols) o 0) e;
    }

-- ---- columns of FROM items
pub record RowColumnFits (widths : List ℕ) (c : RowColumn) : Type 0 where
  pub below : nat_lt c.at.column (slice_index_or widths c.at.item 0) ≡ true
  pub within : Within c.kind

pub new_columns : (P : RowColumn → Type 0) (item total n : ℕ) (cols : List TableColumn) → n + length cols ≤ total → list_all column_is_within cols ≡ true
    → ((k : ℕ) (c : TableColumn) → nat_lt k total ≡ true → Within (of_column c.kind) → P (column_of_item item k c))
    → Each P (map (λ (p : ℕ × TableColumn). column_of_item item p.0 p.1) (enumerate_from n cols))
new_columns P item total n [] l w f = tt
new_columns P item total n (c ∷ cols) l w f =
    let below : nat_lt n total ≡ true = grind (arith, nat_tests) in
    (f n c below (left_of (column_is_within c) (list_all column_is_within cols) w), new_columns P item total (n + 1) cols (omega (arith, l)) (right_of (column_is_within c) (list_all column_is_within cols) w) f)

pub record SourcesFit (catalog : Catalog) (seen : Sources) : Type 0 where
  pub tables : list_all (is_table catalog) seen.tables ≡ true
  pub columns : Each (RowColumnFits (map (width_of catalog) seen.tables)) seen.columns

no_sources_fit : (catalog : Catalog) → SourcesFit catalog no_sources
no_sources_fit catalog = record { tables = refl; columns = tt }

with_item_fits : (catalog : Catalog) (item : FromItem) (seen : Sources) (schema : Schema) → TableIs catalog (folded item.table) schema → SourcesFit catalog seen → SourcesFit catalog (with_item seen item schema)
with_item_fits catalog item seen schema t fit =
    let widths = map (width_of catalog) seen.tables in
    let name = folded item.table in
    let all : map (width_of catalog) (seen.tables ++ name ∷ []) ≡ widths ++ width_of catalog name ∷ [] = map-append (width_of catalog) seen.tables (name ∷ []) in
    let old = each_then (RowColumnFits widths) (RowColumnFits (widths ++ width_of catalog name ∷ [])) seen.columns
    (λ c f. record { below = wider_list widths (width_of catalog name ∷ []) c.at.item c.at.column f.below; within = f.within }) fit.columns in
    let last : slice_index_or (widths ++ width_of catalog name ∷ []) (length seen.tables) 0 ≡ length schema.cols =
    ap (λ n. slice_index_or (widths ++ width_of catalog name ∷ []) n 0) (sym (length-map seen.tables (width_of catalog))) ∙ at_end widths (width_of catalog name) ∙ t.wide in
    let new = new_columns (RowColumnFits (widths ++ width_of catalog name ∷ [])) (length seen.tables) (length schema.cols) 0 schema.cols (omega arith) t.within
    (λ k c l w. record { below = ap (nat_lt k) last ∙ l; within = w }) in
    record {
      tables = list_all-append (is_table catalog) seen.tables (name ∷ []) ∙ both (list_all (is_table catalog) seen.tables) (is_table catalog name && true) fit.tables (both (is_table catalog name) true t.there refl);
      columns =
          subst (λ ws. Each (RowColumnFits ws) (seen.columns ++ columns_of_item (length seen.tables) schema)) (sym all)
          (each_append (RowColumnFits (widths ++ width_of catalog name ∷ [])) seen.columns (columns_of_item (length seen.tables) schema) old new);
    }

item_seen_fits : (catalog : Catalog) → columns_within catalog ≡ true → (item : FromItem) (seen next : Sources) → item_seen catalog item seen ≡ Ok next → SourcesFit catalog seen
    → SourcesFit catalog next × (length next.tables ≡ suc (length seen.tables))
item_seen_fits catalog within item seen next h fit =
    let then_ : Schema → Result Sources Refused = λ schema. refused_where (list_any (is_name (alias_of item)) seen.aliases) (duplicate_name (alias_of item)) (Ok (with_item seen item schema)) in
    let w = went (table_called catalog (folded item.table)) then_ next h in
    let p = passed (list_any (is_name (alias_of item)) seen.aliases) (duplicate_name (alias_of item)) (Ok (with_item seen item w.value)) next w.after in
    let n : length (seen.tables ++ folded item.table ∷ []) ≡ suc (length seen.tables) = length-append seen.tables (folded item.table ∷ []) ∙ omega arith in
    subst (λ (s : Sources). SourcesFit catalog s × (length s.tables ≡ suc (length seen.tables))) (ok_is (with_item seen item w.value) next p.after)
    (with_item_fits catalog item seen w.value (table_is catalog (folded item.table) w.value w.first within) fit, n)

items_seen_fit : (catalog : Catalog) → columns_within catalog ≡ true → (items : List FromItem) (seen last : Sources) → each_in_turn (item_seen catalog) items seen ≡ Ok last → SourcesFit catalog seen
    → SourcesFit catalog last × (length last.tables ≡ length seen.tables + length items)
items_seen_fit catalog within [] seen last h fit =
    let n : length seen.tables ≡ length seen.tables + 0 = omega arith in
    subst (λ (s : Sources). SourcesFit catalog s × (length s.tables ≡ length seen.tables + 0)) (ok_is seen last h) (fit, n)
items_seen_fit catalog within (item ∷ items) seen last h fit =
    let w = went (item_seen catalog item seen) (each_in_turn (item_seen catalog) items) last h in
    let a = item_seen_fits catalog within item seen w.value w.first fit in
    let b = items_seen_fit catalog within items w.value last w.after a.0 in
    (b.0, omega (arith, a.1, b.1))

-- all FROM items
pub record AllSources (catalog : Catalog) (froms : List FromItem) (seen : Sources) : Type 0 where
  pub fit : SourcesFit catalog seen
  pub few : nat_le (length seen.tables) MAX_FROM_ITEMS ≡ true
  pub many : length seen.tables ≡ length froms

pub few_of : (n most : ℕ) → nat_lt most n ≡ false → nat_le n most ≡ true
few_of n most h = grind (arith, nat_tests)

pub sources_fit : (catalog : Catalog) → columns_within catalog ≡ true → (froms : List FromItem) (seen : Sources) → sources_of catalog froms ≡ Ok seen → AllSources catalog froms seen
sources_fit catalog within froms seen h =
    let next : Sources → Result Sources Refused = λ seen. refused_where (nat_lt MAX_FROM_ITEMS (length seen.tables)) (limit LIMIT_OF_FROM_ITEMS) (Ok seen) in
    let w = went (each_in_turn (item_seen catalog) froms no_sources) next seen h in
    let p = passed (nat_lt MAX_FROM_ITEMS (length w.value.tables)) (limit LIMIT_OF_FROM_ITEMS) (Ok w.value) seen w.after in
    let a = items_seen_fit catalog within froms no_sources w.value w.first (no_sources_fit catalog) in
    subst (AllSources catalog froms) (ok_is w.value seen p.after) (record {
      fit = a.0;
      few = few_of (length w.value.tables) MAX_FROM_ITEMS p.holds_not;
      many = a.1 ∙ omega arith;
    })

-- ---- what a name means over rows
pub record NamedColumn (P : RowColumn → Type 0) (at : Position) (c : Column) : Type 0 where
  pub row : RowColumn
  pub holds : P row
  pub seen : is_in_sight at row.at.item ≡ true
  pub is : ◌≡◌ {A = Column} (row.at, row.kind) c

sole_is : (P : RowColumn → Type 0) (at : Position) (item : Option ℕ) (name : Name) (cs : List RowColumn) (c : Column) → sole (is_meant at item name) name cs ≡ Ok c → Each P cs → NamedColumn P at c
sole_is P at item name cs c h all =
    let next : RowColumn → Result Column Refused = λ r. refused_where (nat_lt 1 (length (filter (is_meant at item name) cs))) (duplicate_name name) (Ok (r.at, r.kind)) in
    let w = went (ok_or (find (is_meant at item name) cs) (unknown_name name)) next c h in
    let p = passed (nat_lt 1 (length (filter (is_meant at item name) cs))) (duplicate_name name) (Ok (w.value.at, w.value.kind)) c w.after in
    let f = some_is (find (is_meant at item name) cs) (unknown_name name) w.value w.first in
    let m = find_holds (is_meant at item name) cs w.value f in
    record {
      row = w.value;
      holds = find_each P (is_meant at item name) cs w.value f all;
      seen = right_of (is_name name w.value.name && is_of_item item w.value.at.item) (is_in_sight at w.value.at.item) m;
      is = ok_is (w.value.at, w.value.kind) c p.after;
    }

column_in_is : (P : RowColumn → Type 0) (scope : Scope) (at : Position) (first : Option Name) (name : Name) (c : Column) → column_in scope at first name ≡ Ok c → Each P scope.columns → NamedColumn P at c
column_in_is P scope at None name c h all = sole_is P at None name scope.columns c h all
column_in_is P scope at (Some alias) name c h all =
    let w = went (item_called scope at (folded alias)) (λ item. sole (is_meant at (Some item) name) name scope.columns) c h in
    sole_is P at (Some w.value) name scope.columns c w.after all

pub named_column : (P : RowColumn → Type 0) (scope : Scope) (at : Position) (path : Path) (c : Column) → column_named scope at path ≡ Ok c → Each P scope.columns → NamedColumn P at c
named_column P scope at path c h all = column_in_is P scope at path.first (folded path.last) c h all

-- a scope over rows of items of these widths
pub record RowsFit (widths : List ℕ) (scope : Scope) : Type 0 where
  pub columns : Each (RowColumnFits widths) scope.columns
  pub model : scope.model ≡ no_model

pub no_model_within : ModelWithin no_model
no_model_within = record { dims = tt; measures = tt; refs = tt }

pub model_of : (widths : List ℕ) (scope : Scope) → RowsFit widths scope → ModelWithin scope.model
model_of widths scope rows = subst ModelWithin (sym rows.model) no_model_within

pub column_fits_all : (widths : List ℕ) (scope : Scope) → RowsFit widths scope → (at : Position) (path : Path) (c : Column) → column_named scope at path ≡ Ok c → ColumnFits widths c
column_fits_all widths scope rows at path c h =
    let n = named_column (RowColumnFits widths) scope at path c h rows.columns in
    subst (ColumnFits widths) n.is (n.holds.below, n.holds.within)

pub columns_fit_all : (widths : List ℕ) (scope : Scope) → RowsFit widths scope → ColumnsFit widths scope None
columns_fit_all widths scope rows at last path c h = column_fits_all widths scope rows at path c h

up_to : (i n : ℕ) → nat_le i n ≡ true → i < n + 1
up_to i n h = grind (arith, nat_tests)

columns_fit_on : (widths : List ℕ) (scope : Scope) (n : ℕ) → RowsFit widths scope → ColumnsFit (take (n + 1) widths) scope (Some n)
columns_fit_on widths scope n rows at last path c h =
    let m = named_column (RowColumnFits widths) scope at path c h rows.columns in
    let l : nat_le m.row.at.item n ≡ true = sym (ap (λ o. option_map_or (λ last. nat_le m.row.at.item last) o true) last) ∙ m.seen in
    subst (ColumnFits (take (n + 1) widths)) m.is (within_take (n + 1) widths m.row.at.item m.row.at.column (up_to m.row.at.item n l) m.holds.below, m.holds.within)

-- what fits a scope over rows
abbrev scope_with : List ℕ → ModelNames → FitScope
scope_with widths model = fit_scope widths (record { aliases = []; columns = []; group = None; shown = []; model = model })

pub row_scope_is : (widths : List ℕ) (scope : Scope) (e : Expr) → scope.model ≡ no_model → expression_fits (fit_scope widths scope) e ≡ expression_fits (fit_row_scope widths) e
row_scope_is widths scope e h = ap (λ m. expression_fits (scope_with widths m) e) h

-- ---- conditions
pub filter_fits : (widths : List ℕ) (scope : Scope) (model : ModelWithin scope.model) (at : Position) → Stands widths scope at → in_condition at ≡ false → (o : Option E) → literals_if_any o ≡ true
    → (c : Option Expr) → bound_filter scope at o ≡ Ok c → fits_if_there (fit_scope widths scope) c ≡ true
filter_fits widths scope model at st out None lit c h = subst (λ (c : Option Expr). fits_if_there (fit_scope widths scope) c ≡ true) (ok_is None c h) refl
filter_fits widths scope model at st out (Some e) lit c h =
    let w = went (bound scope e at >>= needs_condition) (λ c. Ok (Some c)) c h in
    let v = went (bound scope e at) needs_condition w.value w.first in
    let p = passed (not (is_condition_found v.value)) kind_mismatch (Ok v.value.e) w.value v.after in
    let f = expr_fits widths scope model e lit at st v.value v.first in
    let k = fits_of (fit_scope widths scope) (in_condition at) (is_inside at) v.value.e f.fine out in
    subst (λ (c : Option Expr). fits_if_there (fit_scope widths scope) c ≡ true) (ok_is (Some w.value) c w.after)
    (subst (λ (x : Expr). expression_fits (fit_scope widths scope) x ≡ true) (ok_is v.value.e w.value p.after) k)

there_is : (widths : List ℕ) (scope : Scope) (o : Option Expr) → scope.model ≡ no_model → fits_if_there (fit_scope widths scope) o ≡ true → fits_if_there (fit_row_scope widths) o ≡ true
there_is widths scope None h k = refl
there_is widths scope (Some e) h k = sym (row_scope_is widths scope e h) ∙ k

-- WHERE
pub where_fits : (widths : List ℕ) (scope : Scope) → RowsFit widths scope → (o : Option E) → literals_if_any o ≡ true → (c : Option Expr) → bound_filter scope (standing part.Row) o ≡ Ok c
    → fits_if_there (fit_row_scope widths) c ≡ true
where_fits widths scope rows o lit c h =
    there_is widths scope c rows.model (filter_fits widths scope (model_of widths scope rows) (standing part.Row) (columns_fit_all widths scope rows, tt) refl o lit c h)

-- ON
on_fits : (widths : List ℕ) (scope : Scope) → RowsFit widths scope → (n : ℕ) (item : FromItem) → literals_if_any item.on ≡ true → (c : Option Expr) → on_bound scope n item ≡ Ok c
    → fits_if_there (fit_row_scope (take (n + 1) widths)) c ≡ true
on_fits widths scope rows n item lit c h =
    there_is (take (n + 1) widths) scope c rows.model
    (filter_fits (take (n + 1) widths) scope (model_of widths scope rows) (standing_on n) (columns_fit_on widths scope n rows, tt) refl item.on lit c h)

ons_all : (widths : List ℕ) (n : ℕ) (ons : List (Option Expr)) → EachFrom (λ m c. fits_if_there (fit_row_scope (take (m + 1) widths)) c ≡ true) n ons
    → list_all (λ (p : ℕ × Option Expr). fits_if_there (fit_row_scope (take (p.0 + 1) widths)) p.1) (enumerate_from n ons) ≡ true
ons_all widths n [] e = refl
ons_all widths n (c ∷ ons) e =
    both (fits_if_there (fit_row_scope (take (n + 1) widths)) c) (list_all (λ (p : ℕ × Option Expr). fits_if_there (fit_row_scope (take (p.0 + 1) widths)) p.1) (enumerate_from (n + 1) ons)) e.0 (ons_all widths (n + 1) ons e.1)

-- ---- the base of a query
pub record BaseFits (catalog : Catalog) (base : Base) : Type 0 where
  pub from : from_fits catalog base.from ≡ true
  pub rows : RowsFit (map (width_of catalog) base.from.tables) base.scope
  pub cols : group_fits (map (width_of catalog) base.from.tables) base.cols ≡ true
  pub plain : (base.scope.group ≡ None) × (base.scope.shown ≡ [])

grouping_fits : (widths : List ℕ) (scope : Scope) → RowsFit widths scope → (path : Path) (c : ColRef) → grouping scope path ≡ Ok c → nat_lt c.column (slice_index_or widths c.item 0) ≡ true
grouping_fits widths scope rows path c h =
    let w = went (column_named scope (standing part.Row) path) (λ c. Ok c.0) c h in
    let f = column_fits_all widths scope rows (standing part.Row) path w.value w.first in
    subst (λ (c : ColRef). nat_lt c.column (slice_index_or widths c.item 0) ≡ true) (ok_is w.value.0 c w.after) f.0

eq_of : (n m k : ℕ) → n ≡ k → m ≡ k → (n == m) ≡ true
eq_of n m k h g = grind (arith, nat_tests)

anything : {A : Type 0} (xs : List A) → Each (λ (x : A). Unit {0}) xs
anything [] = tt
anything (x ∷ xs) = (tt, anything xs)

pub base_fits : (catalog : Catalog) → columns_within catalog ≡ true → (p : Plain) → plain_literals p ≡ true → (base : Base) → base_of catalog p ≡ Ok base → BaseFits catalog base
base_fits catalog within p lit base h =
    let s = went (sources_of catalog p.froms) (λ seen. base_over p seen.tables (row_scope seen.aliases seen.columns)) base h in
    let all = sources_fit catalog within p.froms s.value s.first in
    let scope = row_scope s.value.aliases s.value.columns in
    let widths = map (width_of catalog) s.value.tables in
    let rows : RowsFit widths scope = record { columns = all.fit.columns; model = refl } in
    let made : List (Option Expr) → Option Expr → List ColRef → Base = λ ons filter cols. record { from = record { tables = s.value.tables; ons = ons; filter = filter }; scope = scope; cols = cols } in
    let a = went (each_from (on_bound scope) 0 p.froms) (λ ons. bound_filter scope (standing part.Row) p.filter >>= (λ filter. each (grouping scope) p.group >>= (λ cols. Ok (made ons filter cols)))) base s.after in
    let b = went (bound_filter scope (standing part.Row) p.filter) (λ filter. each (grouping scope) p.group >>= (λ cols. Ok (made a.value filter cols))) base a.after in
    let c = went (each (grouping scope) p.group) (λ cols. Ok (made a.value b.value cols)) base b.after in
    let items = list_all (λ (s : Sel). literals_fit s.e) p.sels in
    let on_lits = list_all (λ (i : FromItem). literals_if_any i.on) p.froms in
    let front = left_of (items && on_lits) (literals_if_any p.filter) lit in
    let on_lit = each_all (λ (i : FromItem). literals_if_any i.on) p.froms (right_of items on_lits front) in
    let ons =
    ons_all widths 0 a.value (from_gives (on_bound scope) (λ (i : FromItem). literals_if_any i.on ≡ true) (λ m c. fits_if_there (fit_row_scope (take (m + 1) widths)) c ≡ true)
    (on_fits widths scope rows) 0 p.froms a.value on_lit a.first) in
    let filter = where_fits widths scope rows p.filter (right_of (items && on_lits) (literals_if_any p.filter) lit) b.value b.first in
    let cols =
    all_each (λ (c : ColRef). nat_lt c.column (slice_index_or widths c.item 0)) c.value
    (each_gives (grouping scope) (λ (x : Path). Unit {0}) (λ (c : ColRef). nat_lt c.column (slice_index_or widths c.item 0) ≡ true) (λ x q. grouping_fits widths scope rows x) p.group c.value (anything p.group) c.first) in
    let long = eq_of (length a.value) (length s.value.tables) (length p.froms) (from_long (on_bound scope) 0 p.froms a.value a.first) all.many in
    let t1 = list_all (is_table catalog) s.value.tables in
    let t2 = nat_le (length s.value.tables) MAX_FROM_ITEMS in
    let t3 = length a.value == length s.value.tables in
    let t4 = ons_fit widths a.value in
    let t5 = fits_if_there (fit_row_scope widths) b.value in
    subst (BaseFits catalog) (ok_is (made a.value b.value c.value) base c.after) (record {
      from = both (t1 && t2 && t3 && t4) t5 (both (t1 && t2 && t3) t4 (both (t1 && t2) t3 (both t1 t2 all.fit.tables all.few) long) ons) filter;
      rows = rows;
      cols = cols;
      plain = (refl, refl);
    })
