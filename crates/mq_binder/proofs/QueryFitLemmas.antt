-- A query fits the catalog.
use Rattle.std.proofs.Common.{◌≡◌, ℕ, zero, suc, ◌+◌, ◌<◌, ◌≤◌, List, [], ◌∷◌, map, length, Bool, true, false, ◌&&◌, ◌||◌, ◌==◌, Option, Some, None, Result, Ok, refl, sym, ap, ◌∙◌, subst, arith}
use Rattle.std.specs.Prelude.{nat_le, nat_lt, position, slice_index_or}
use Rattle.std.specs.List.{list_all, range_with_len}
use Rattle.std.specs.Option.{ok_or, option_map_or}
use Rattle.std.proofs.lemmas.Bool.Decides.{nat_tests}
use Rattle.std.proofs.lemmas.List.FromFn.{length-range_with_len}
use Rattle.std.proofs.lemmas.List.Quantifiers.{position-Some}
use Rattle.mq_lexer.specs.Words.{folded}
use Rattle.mq_values.specs.declared.faults.Refused.{Refused}
use Rattle.mq_values.specs.declared.limits.TheConstants.{MAX_PRINTED_COLUMNS}
use Rattle.mq_ast.specs.declared.queries.FromItem.{FromItem}
use Rattle.mq_ast.specs.declared.queries.ModelTree.{ModelTree}
use Rattle.mq_ast.specs.declared.queries.OrderKey.{OrderKey}
use Rattle.mq_ast.specs.declared.queries.Plain.{Plain}
use Rattle.mq_ast.specs.declared.queries.Query.{Query}
use Rattle.mq_ast.specs.declared.queries.Sel.{Sel}
use Rattle.mq_ir.specs.declared.catalog.Catalog.{Catalog}
use Rattle.mq_ir.specs.declared.expression.BoundArm.{BoundArm}
use Rattle.mq_ir.specs.declared.expression.BoundProd.{BoundProd}
use Rattle.mq_ir.specs.declared.expression.BoundSum.{BoundSum}
use Rattle.mq_ir.specs.declared.expression.Expr.{Expr, out-Expr, roll-Expr, roll-out-Expr}
use Rattle.mq_ir.specs.declared.expression.Expr.TheOpen as layer
use Rattle.mq_ir.specs.declared.expression.Expr.TheVariants as expr
use Rattle.mq_ir.specs.declared.expression.Leaf.{Leaf, out-Leaf, roll-Leaf, roll-out-Leaf}
use Rattle.mq_ir.specs.declared.expression.Leaf.TheVariants as leaf
use Rattle.mq_ir.specs.declared.expression.Test.{Test}
use Rattle.mq_ir.specs.declared.query.BoundQuery.{BoundQuery}
use Rattle.mq_ir.specs.declared.query.ColRef.{ColRef}
use Rattle.mq_ir.specs.declared.query.FromPart.{FromPart}
use Rattle.mq_ir.specs.Fits.{column_count, from_fits, group_fits, items_fit, model_fits, query_fits, row_scope as fit_row_scope}
use Rattle.mq_ir.specs.FitsExpression.{Scope as FitScope, expression_fits}
use Rattle.mq_ir.specs.Names.{width_of}
use Rattle.mq_ir.specs.Results.{◌>>=◌, each}
use Rattle.mq_bind_scopes.specs.declared.kinds.ExprKind.TheVariants as kind
use Rattle.mq_bind_scopes.specs.declared.misuse_numbers.TheConstants.{MISUSE_OF_SHOWN_ITEM}
use Rattle.mq_bind_scopes.specs.declared.scopes.Found.{Found}
use Rattle.mq_bind_scopes.specs.declared.scopes.Named.{Named}
use Rattle.mq_bind_scopes.specs.declared.scopes.Part.TheVariants as part
use Rattle.mq_bind_scopes.specs.declared.scopes.Printed.{Printed}
use Rattle.mq_bind_scopes.specs.declared.scopes.Scope.{Scope}
use Rattle.mq_bind_expr.specs.ExpressionWalk.{bound, bound_value, needs_value}
use Rattle.mq_bind_scopes.specs.Names.{called}
use Rattle.mq_bind_expr.specs.OperatorNodes.{is_condition_found}
use Rattle.mq_bind_scopes.specs.Positions.{standing}
use Rattle.mq_bind_scopes.specs.Refusals.{kind_mismatch, misuse, unknown_name}
use Rattle.mq_binder.specs.declared.found.ModelFound.{ModelFound}
use Rattle.mq_binder.specs.declared.found.PlainFound.{PlainFound}
use Rattle.mq_binder.specs.FromWalk.{base_of, grouped_by}
use Rattle.mq_binder.specs.ModelWalk.{model_group, model_over}
use Rattle.mq_binder.specs.PlainWalk.{any_aggregate, few_printed, plain_bound}
use Rattle.mq_binder.specs.QueryWalk.{column_number, few_shown, leaf_number, model_key, model_query, model_rows, plain_query, printed_key, prints, query_bound, query_with, shown_item, shown_list, shown_scope}
use Rattle.mq_binder.specs.WithinLimits.{columns_within}
use Rattle.mq_binder.specs.Literals.{literals_fit, literals_if_any}
use Rattle.mq_binder.specs.StatementLiterals.{items_literals, model_literals, plain_literals, query_literals}
use Rattle.mq_binder.proofs.FitsLemmas.{fits_leaf, leaf_column, leaf_fit}
use Rattle.mq_binder.proofs.FromLemmas.{RowsFit, base_fits, no_model_within}
use Rattle.mq_binder.proofs.ModelLemmas.{ModelFits, model_fit}
use Rattle.mq_binder.proofs.PlainLemmas.{PlainFits, few_are, group_is, plain_fit}
use Rattle.mq_binder.proofs.SoundLemmas.{fits_of}
use Rattle.mq_binder.proofs.StandLemmas.{NamedWithin, ShownFit, called_fits, fit_scope, is_inside}
use Rattle.mq_binder.proofs.FitStepLemmas.{Each, all_each, both, each_all, each_gives, just_is, left_of, ok_is, passed, right_of, some_is, went}
use Rattle.mq_binder.proofs.WalkLemmas.{expr_fits}

-- ---- numbers of columns
below : (n m : ℕ) → n < m → nat_lt n m ≡ true
below n m h = grind (arith, nat_tests)

eq_of : (n m : ℕ) → n ≡ m → (n == m) ≡ true
eq_of n m h = grind (arith, nat_tests)

range_below : (total a n : ℕ) → a + n ≤ total → list_all (λ k. nat_lt k total) (range_with_len a n) ≡ true
range_below total a zero h = refl
range_below total a (suc n) h =
    both (nat_lt a total) (list_all (λ k. nat_lt k total) (range_with_len (a + 1) n)) (below a total (omega (arith, h))) (range_below total (a + 1) n (omega (arith, h)))

anything : {A : Type 0} (xs : List A) → Each (λ (x : A). Unit {0}) xs
anything [] = tt
anything (x ∷ xs) = (tt, anything xs)

-- ---- without MODEL
abbrev KeyFits : ℕ → ℕ × Bool → Type 0
KeyFits total key = nat_lt key.0 total ≡ true

printed_key_fits : (printed : List Printed) (key : OrderKey) (y : ℕ × Bool) → printed_key printed key ≡ Ok y → KeyFits (length printed) y
printed_key_fits printed key y h =
    let w = went (ok_or (position (prints (folded key.name)) printed) (unknown_name (folded key.name))) (λ n. Ok (n, key.desc)) y h in
    let e = some_is (position (prints (folded key.name)) printed) (unknown_name (folded key.name)) w.value w.first in
    let none : Printed = record { name = None; kind = kind.Null } in
    subst (KeyFits (length printed)) (ok_is (w.value, key.desc) y w.after) (below w.value (length printed) (position-Some (prints (folded key.name)) printed w.value none e).0)

keys_fit : (total : ℕ) (f : OrderKey → Result (ℕ × Bool) Refused) → ((key : OrderKey) (y : ℕ × Bool) → f key ≡ Ok y → KeyFits total y) → (keys : List OrderKey) (ys : List (ℕ × Bool)) → each f keys ≡ Ok ys
    → list_all (λ (key : ℕ × Bool). nat_lt key.0 total) ys ≡ true
keys_fit total f step keys ys h = all_each (λ (key : ℕ × Bool). nat_lt key.0 total) ys (each_gives f (λ (k : OrderKey). Unit {0}) (KeyFits total) (λ k q. step k) keys ys (anything keys) h)

-- the parts of a query that fit
query_is : (catalog : Catalog) (q : BoundQuery) → from_fits catalog q.from ≡ true → items_fit catalog q.from q.items ≡ true → option_map_or (model_fits catalog) q.model true ≡ true → length q.items.items ≡ column_count q
    → nat_le (length q.print) MAX_PRINTED_COLUMNS ≡ true → list_all (λ n. nat_lt n (column_count q)) q.print ≡ true → list_all (λ (key : ℕ × Bool). nat_lt key.0 (column_count q)) q.order ≡ true → query_fits catalog q ≡ true
query_is catalog q h1 h2 h3 n h5 h6 h7 =
    let b1 = from_fits catalog q.from in
    let b2 = items_fit catalog q.from q.items in
    let b3 = option_map_or (model_fits catalog) q.model true in
    let b4 = length q.items.items == column_count q in
    let b5 = nat_le (length q.print) MAX_PRINTED_COLUMNS in
    let b6 = list_all (λ n. nat_lt n (column_count q)) q.print in
    let b7 = list_all (λ (key : ℕ × Bool). nat_lt key.0 (column_count q)) q.order in
    let c2 = both b1 b2 h1 h2 in
    let c3 = both (b1 && b2) b3 c2 h3 in
    let c4 = both (b1 && b2 && b3) b4 c3 (eq_of (length q.items.items) (column_count q) n) in
    let c5 = both (b1 && b2 && b3 && b4) b5 c4 h5 in
    let c6 = both (b1 && b2 && b3 && b4 && b5) b6 c5 h6 in
    both (b1 && b2 && b3 && b4 && b5 && b6) b7 c6 h7

abbrev QueryFits : Catalog → BoundQuery → Type 0
QueryFits catalog q = query_fits catalog q ≡ true

plain_query_fits : (catalog : Catalog) (q : Query) (found : PlainFound) → PlainFits catalog found → (b : BoundQuery) → plain_query q found ≡ Ok b → QueryFits catalog b
plain_query_fits catalog q found fit b h =
    let n = length found.printed in
    let made : List (ℕ × Bool) → BoundQuery = λ order. record { from = found.part.from; items = found.part.items; model = None; print = range_with_len 0 n; order = order } in
    let w = went (each (printed_key found.printed) q.order) (λ order. Ok (made order)) b h in
    let f1 = from_fits catalog found.part.from in
    let f2 = items_fit catalog found.part.from found.part.items in
    let f3 = nat_le (length found.part.items.items) MAX_PRINTED_COLUMNS in
    let front = left_of (f1 && f2) f3 fit.fits in
    let count = length found.part.items.items in
    let few : nat_le (length (range_with_len 0 n)) MAX_PRINTED_COLUMNS ≡ true = ap (λ k. nat_le k MAX_PRINTED_COLUMNS) (length-range_with_len 0 n) ∙ fit.few in
    let numbers = subst (λ k. list_all (λ m. nat_lt m k) (range_with_len 0 n) ≡ true) fit.long (range_below n 0 n (omega arith)) in
    let keys = subst (λ k. list_all (λ (key : ℕ × Bool). nat_lt key.0 k) w.value ≡ true) fit.long (keys_fit n (printed_key found.printed) (printed_key_fits found.printed) q.order w.value w.first) in
    subst (QueryFits catalog) (ok_is (made w.value) b w.after) (query_is catalog (made w.value) (left_of f1 f2 front) (right_of f1 f2 front) refl refl few numbers keys)

-- ---- the SELECT list of a query with MODEL
abbrev leaf_number_of : layer.Leaf-F Expr Leaf Test BoundArm BoundProd BoundSum → Option ℕ
leaf_number_of l = elim l [ layer.Column item column ↦ Some column | _ ↦ None ]

abbrev number_of : layer.Expr-F Expr Leaf Test BoundArm BoundProd BoundSum → Option ℕ
number_of e = elim e [ layer.Leaf l ↦ leaf_number l | _ ↦ None ]

none_some : {P : Type 0} (n : ℕ) → ◌≡◌ {A = Option ℕ} None (Some n) → P
none_some n h = absurd cc

no_column : {P : Type 0} (n : ℕ) → nat_lt n 0 ≡ true → P
no_column n h = absurd (grind (arith, nat_tests))

sole_width : (total item n : ℕ) → nat_lt n (slice_index_or (total ∷ []) item 0) ≡ true → nat_lt n total ≡ true
sole_width total zero n h = h
sole_width total (suc item) n h = no_column n h

module _ (total : ℕ) (s : FitScope) (is : s.columns ≡ total ∷ []) where
  leaf_below : (l : layer.Leaf-F Expr Leaf Test BoundArm BoundProd BoundSum) (n : ℕ) → leaf_number_of l ≡ Some n → leaf_fit s (roll-Leaf l) ≡ true → nat_lt n total ≡ true
  leaf_below (layer.Column item column) n h k =
      let f : nat_lt column (slice_index_or s.columns item 0) ≡ true = sym (leaf_column s item column) ∙ ap (leaf_fit s) (sym (leaf.rolls-Column item column)) ∙ k in
      subst (λ n. nat_lt n total ≡ true) (just_is column n h) (sole_width total item column (ap (λ c. nat_lt column (slice_index_or c item 0)) (sym is) ∙ f))
  leaf_below _ n h k = none_some n h

  expr_below : (e : layer.Expr-F Expr Leaf Test BoundArm BoundProd BoundSum) (n : ℕ) → number_of e ≡ Some n → expression_fits s (roll-Expr e) ≡ true → nat_lt n total ≡ true
  expr_below (layer.Leaf l) n h k =
      let f : leaf_fit s l ≡ true = sym (fits_leaf s l) ∙ ap (expression_fits s) (sym (expr.rolls-Leaf l)) ∙ k in
      leaf_below (out-Leaf l) n h (ap (leaf_fit s) (roll-out-Leaf l) ∙ f)
  expr_below _ n h k = none_some n h

  number_below : (e : Expr) (n : ℕ) → column_number e ≡ Some n → expression_fits s e ≡ true → nat_lt n total ≡ true
  number_below e n h k = expr_below (out-Expr e) n h (ap (expression_fits s) (roll-out-Expr e) ∙ k)

shown_fit : (scope : Scope) (found : ModelFound) → Each NamedWithin found.columns → ShownFit (length found.columns ∷ []) (shown_scope scope found)
shown_fit scope found within name c h = called_fits name found.columns c h within

shown_item_fits : (scope : Scope) (found : ModelFound) → Each NamedWithin found.columns → (sel : Sel) → literals_fit sel.e ≡ true → (n : ℕ) → shown_item (shown_scope scope found) sel ≡ Ok n → nat_lt n (length found.columns) ≡ true
shown_item_fits scope found within sel lit n h =
    let shown = shown_scope scope found in
    let columns = length found.columns ∷ [] in
    let w = went (bound_value shown (standing part.Shown) sel.e) (λ f. ok_or (column_number f.e) (misuse MISUSE_OF_SHOWN_ITEM)) n h in
    let v = went (bound shown sel.e (standing part.Shown)) needs_value w.value w.first in
    let p = passed (is_condition_found v.value) kind_mismatch (Ok v.value) w.value v.after in
    let k = expr_fits columns shown no_model_within sel.e lit (standing part.Shown) (shown_fit scope found within, tt) v.value v.first in
    let f = fits_of (fit_scope columns shown) false (is_inside (standing part.Shown)) v.value.e k.fine refl in
    let g = subst (λ (x : Found). expression_fits (fit_scope columns shown) x.e ≡ true) (ok_is v.value w.value p.after) f in
    number_below (length found.columns) (fit_scope columns shown) refl w.value.e n (some_is (column_number w.value.e) (misuse MISUSE_OF_SHOWN_ITEM) n w.after) g

shown_list_fits : (star : Bool) (scope : Scope) (found : ModelFound) → Each NamedWithin found.columns → (sels : List Sel) → items_literals sels ≡ true → (ns : List ℕ) → shown_list star sels (shown_scope scope found) ≡ Ok ns
    → list_all (λ n. nat_lt n (length found.columns)) ns ≡ true
shown_list_fits true scope found within sels lit ns h =
    subst (λ (ns : List ℕ). list_all (λ n. nat_lt n (length found.columns)) ns ≡ true) (ok_is (range_with_len 0 (length found.columns)) ns h) (range_below (length found.columns) 0 (length found.columns) (omega arith))
shown_list_fits false scope found within sels lit ns h =
    all_each (λ n. nat_lt n (length found.columns)) ns
    (each_gives (shown_item (shown_scope scope found)) (λ (s : Sel). literals_fit s.e ≡ true) (λ n. nat_lt n (length found.columns) ≡ true) (shown_item_fits scope found within) sels ns (each_all (λ (s : Sel). literals_fit s.e) sels lit) h)

model_key_fits : (columns : List Named) → Each NamedWithin columns → (key : OrderKey) (y : ℕ × Bool) → model_key columns key ≡ Ok y → KeyFits (length columns) y
model_key_fits columns within key y h =
    let w = went (called (folded key.name) columns) (λ c. Ok (c.0, key.desc)) y h in
    subst (KeyFits (length columns)) (ok_is (w.value.0, key.desc) y w.after) (called_fits (folded key.name) columns w.value w.first within).0

sels_lits : (p : Plain) → plain_literals p ≡ true → items_literals p.sels ≡ true
sels_lits p lit =
    let items = list_all (λ (s : Sel). literals_fit s.e) p.sels in
    let ons = list_all (λ (i : FromItem). literals_if_any i.on) p.froms in
    left_of items ons (left_of (items && ons) (literals_if_any p.filter) lit)

-- ---- with MODEL
model_query_fits : (catalog : Catalog) (q : Query) (from : FromPart) (scope : Scope) (found : ModelFound) → plain_literals q.plain ≡ true → from_fits catalog from ≡ true
    → option_map_or (group_fits (map (width_of catalog) from.tables)) scope.group true ≡ true → ModelFits catalog (map (width_of catalog) from.tables) scope.group found → (b : BoundQuery) → model_query q from scope found ≡ Ok b → QueryFits catalog b
model_query_fits catalog q from scope found lit fit group m b h =
    let shown = shown_scope scope found in
    let widths = map (width_of catalog) from.tables in
    let total = found.part.parts + length found.part.dims + length found.part.measures in
    let made : List ℕ → List (ℕ × Bool) → BoundQuery = λ print order. record { from = from; items = record { group = found.group; items = found.items }; model = Some found.part; print = print; order = order } in
    let w = went (few_shown q shown) (λ print. each (model_key found.columns) q.order >>= (λ order. Ok (made print order))) b h in
    let v = went (each (model_key found.columns) q.order) (λ order. Ok (made w.value order)) b w.after in
    let u = went (shown_list q.plain.star q.plain.sels shown) few_printed w.value w.first in
    let few = few_are u.value w.value u.after in
    let numbers = subst (λ (ns : List ℕ). list_all (λ n. nat_lt n (length found.columns)) ns ≡ true) few.0 (shown_list_fits q.plain.star scope found m.within q.plain.sels (sels_lits q.plain lit) u.value u.first) in
    let print = subst (λ k. list_all (λ n. nat_lt n k) w.value ≡ true) m.columns numbers in
    let keys = keys_fit (length found.columns) (model_key found.columns) (model_key_fits found.columns m.within) q.order v.value v.first in
    let order = subst (λ k. list_all (λ (key : ℕ × Bool). nat_lt key.0 k) v.value ≡ true) m.columns keys in
    let g : option_map_or (group_fits widths) found.group true ≡ true = ap (λ (o : Option (List ColRef)). option_map_or (group_fits widths) o true) m.group_is ∙ group in
    let items = both (option_map_or (group_fits widths) found.group true) (list_all (expression_fits (fit_row_scope widths)) found.items) g m.items in
    subst (QueryFits catalog) (ok_is (made w.value v.value) b v.after) (query_is catalog (made w.value v.value) fit items m.fits m.count few.1 print order)

with_model_fits : (catalog : Catalog) → columns_within catalog ≡ true → (q : Query) (m : ModelTree) → plain_literals q.plain ≡ true → model_literals m ≡ true → (b : BoundQuery) → query_with catalog q (Some m) ≡ Ok b → QueryFits catalog b
with_model_fits catalog within q m lit lit_m b h =
    let w = went (base_of catalog q.plain) (λ base. model_rows catalog q m base.from (grouped_by (model_group m base) base.scope)) b h in
    let base = base_fits catalog within q.plain lit w.value w.first in
    let scope = grouped_by (model_group m w.value) w.value.scope in
    let widths = map (width_of catalog) w.value.from.tables in
    let rows : RowsFit widths scope = record { columns = base.rows.columns; model = base.rows.model } in
    let v = went (model_over catalog scope m) (model_query q w.value.from scope) b w.after in
    let f = model_fit catalog within widths scope rows m lit_m v.value v.first in
    let group = group_is widths w.value.cols (any_aggregate m.parts || any_aggregate m.dims || any_aggregate m.measures) base.cols in
    model_query_fits catalog q w.value.from scope v.value lit base.from group f b v.after

by_model : (catalog : Catalog) → columns_within catalog ≡ true → (q : Query) (model : Option ModelTree) → plain_literals q.plain ≡ true → option_map_or model_literals model true ≡ true → (b : BoundQuery)
    → query_with catalog q model ≡ Ok b → QueryFits catalog b
by_model catalog within q None lit lit_m b h =
    let w = went (plain_bound catalog q.plain) (plain_query q) b h in
    plain_query_fits catalog q w.value (plain_fit catalog within q.plain lit w.value w.first) b w.after
by_model catalog within q (Some m) lit lit_m b h = with_model_fits catalog within q m lit lit_m b h

pub query_fit : (catalog : Catalog) → columns_within catalog ≡ true → (q : Query) → query_literals q ≡ true → (b : BoundQuery) → query_bound catalog q ≡ Ok b → query_fits catalog b ≡ true
query_fit catalog within q lit b h =
    let l = plain_literals q.plain in
    let m = option_map_or model_literals q.model true in
    by_model catalog within q q.model (left_of l m lit) (right_of l m lit) b h
