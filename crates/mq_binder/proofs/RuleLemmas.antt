-- The rules of a model fit it: FORs, left sides and right sides.
use Rattle.std.proofs.Common.{◌≡◌, ℕ, zero, suc, ◌+◌, ◌<◌, ◌≤◌, List, [], ◌∷◌, ◌++◌, map, length, Bool, true, false, not, ◌&&◌, ◌||◌, ◌==◌, Option, Some, Result, Ok, refl, sym, ap, ◌∙◌, subst, append_assoc, arith}
use Rattle.std.specs.Prelude.{filter, nat_lt, slice_get}
use Rattle.std.specs.List.{list_all, range_with_len}
use Rattle.std.specs.Option.{ok_or, option_map}
use Rattle.std.proofs.lemmas.Bool.Decides.{nat_tests}
use Rattle.std.proofs.lemmas.List.{append-nil, length-map}
use Rattle.std.proofs.lemmas.List.Quantifiers.{position-Some}
use Rattle.mq_lexer.specs.Words.{folded}
use Rattle.mq_values.specs.declared.faults.Refused.{Refused}
use Rattle.mq_values.specs.declared.operators.Mode.{Mode}
use Rattle.mq_ast.specs.declared.expressions.E.{E}
use Rattle.mq_ast.specs.declared.queries.ForList.{ForList}
use Rattle.mq_ast.specs.declared.queries.ForList.TheVariants as for_list
use Rattle.mq_ast.specs.declared.queries.LeftPlace.{LeftPlace}
use Rattle.mq_ast.specs.declared.queries.LeftPlace.TheVariants as place
use Rattle.mq_ast.specs.declared.queries.LeftTree.{LeftTree}
use Rattle.mq_ast.specs.declared.queries.LeftTree.TheVariants as tree
use Rattle.mq_ast.specs.declared.queries.OrderKey.{OrderKey}
use Rattle.mq_ast.specs.declared.queries.RuleTree.{RuleTree}
use Rattle.mq_ir.specs.declared.catalog.Catalog.{Catalog}
use Rattle.mq_ir.specs.declared.expression.BoundArm.{BoundArm}
use Rattle.mq_ir.specs.declared.expression.BoundProd.{BoundProd}
use Rattle.mq_ir.specs.declared.expression.BoundSum.{BoundSum}
use Rattle.mq_ir.specs.declared.expression.Expr.{Expr}
use Rattle.mq_ir.specs.declared.expression.Expr.TheOpen as layer
use Rattle.mq_ir.specs.declared.expression.Leaf.{Leaf}
use Rattle.mq_ir.specs.declared.expression.Test.{Test, out-Test, roll-Test, roll-out-Test}
use Rattle.mq_ir.specs.declared.expression.Test.TheVariants as test
use Rattle.mq_ir.specs.declared.query.Left.{Left}
use Rattle.mq_ir.specs.declared.query.Left.TheVariants as left
use Rattle.mq_ir.specs.declared.query.LeftItem.{LeftItem}
use Rattle.mq_ir.specs.declared.query.LeftItem.TheVariants as item
use Rattle.mq_ir.specs.declared.query.ListSource.{ListSource}
use Rattle.mq_ir.specs.declared.query.ListSource.TheVariants as source
use Rattle.mq_ir.specs.declared.query.PlainPart.{PlainPart}
use Rattle.mq_ir.specs.declared.query.Rule.{Rule}
use Rattle.mq_ir.specs.Fits.{numbers_each_once, plain_fits}
use Rattle.mq_ir.specs.FitsExpression.{Scope as FitScope, expression_fits, is_inner, test_fits}
use Rattle.mq_ir.specs.Looks.{leaves_of}
use Rattle.mq_ir.specs.Results.{◌>>=◌, each}
use Rattle.mq_ir.specs.Tables.{is_name}
use Rattle.mq_bind_scopes.specs.declared.kinds.ExprKind.{ExprKind}
use Rattle.mq_bind_scopes.specs.declared.kinds.ExprKind.TheVariants as kind
use Rattle.mq_bind_scopes.specs.declared.misuse_numbers.TheConstants.{MISUSE_OF_FOR, MISUSE_OF_ORDER, MISUSE_OF_PLACE_COUNT}
use Rattle.mq_bind_scopes.specs.declared.scopes.Found.{Found}
use Rattle.mq_bind_scopes.specs.declared.scopes.Named.{Named}
use Rattle.mq_bind_scopes.specs.declared.scopes.Owner.TheVariants as owner
use Rattle.mq_bind_scopes.specs.declared.scopes.Part.TheVariants as part
use Rattle.mq_bind_scopes.specs.declared.scopes.Placed.{Placed}
use Rattle.mq_bind_scopes.specs.declared.scopes.Printed.{Printed}
use Rattle.mq_bind_scopes.specs.declared.scopes.Scope.{Scope}
use Rattle.mq_bind_expr.specs.ExpressionWalk.{bound}
use Rattle.mq_bind_expr.specs.Forms.{is_condition}
use Rattle.mq_bind_scopes.specs.Kinds.{is_assignable}
use Rattle.mq_bind_scopes.specs.Misuses.{other_place_count}
use Rattle.mq_bind_scopes.specs.Names.{Name, called}
use Rattle.mq_bind_expr.specs.OperatorNodes.{exprs_of, kinds_of}
use Rattle.mq_bind_expr.specs.PlaceTests.{place_of}
use Rattle.mq_bind_scopes.specs.Positions.{bracketed, place_kind, standing}
use Rattle.mq_bind_scopes.specs.Refusals.{kind_mismatch, misuse, refused_where}
use Rattle.mq_bind_expr.specs.Steps.{each_with, each_with_from}
use Rattle.mq_binder.specs.declared.found.LeftFound.{LeftFound}
use Rattle.mq_binder.specs.declared.found.ListFound.{ListFound}
use Rattle.mq_binder.specs.ForWalk.{for_checked, has_width, list_bound, names_place, row_fits, rows_found, steps_checked, value_row, values_found}
use Rattle.mq_bind_scopes.specs.ForSteps.{steps_fit}
use Rattle.mq_binder.specs.LeftWalk.{dimension_called, expression_place, kind_called, left_bound, left_item, left_place, left_places, names_each, numbers_called, steps_place, tuples_found, with_lists}
use Rattle.mq_binder.specs.PlainWalk.{plain_bound}
use Rattle.mq_bind_scopes.specs.SymbolicSides.{is_symbolic}
use Rattle.mq_binder.specs.RuleWalk.{left_key, left_order, right_bound, rule_behind, rule_bound, rule_of, rules_bound}
use Rattle.mq_binder.specs.WithinLimits.{columns_within}
use Rattle.mq_binder.specs.Literals.{literals_fit}
use Rattle.mq_binder.specs.StatementLiterals.{left_literals, left_place_literals, list_literals, rule_literals}
use Rattle.mq_binder.proofs.FitsLemmas.{any_fits, at_fits}
use Rattle.mq_binder.proofs.FromLemmas.{each_append, each_then}
use Rattle.mq_binder.proofs.PlainLemmas.{plain_fit}
use Rattle.mq_binder.proofs.SoundLemmas.{chained, fits_of, mapped}
use Rattle.mq_binder.proofs.StandLemmas.{ModelWithin, PlaceFits, called_fits, fit_scope, is_inside}
use Rattle.mq_binder.proofs.FitStepLemmas.{Each, EachFrom, all_below, all_each, both, each_all, each_gives, just_is, left_of, ok_is, passed, right_of, some_is, went}
use Rattle.mq_binder.proofs.WalkLemmas.{expr_fits, placed_fits}

-- ---- the subqueries of FORs, which grow
abbrev pub Lists : Type 0
Lists = List PlainPart

pub record Grown (lists more : Lists) : Type 0 where
  pub extra : Lists
  pub is : more ≡ lists ++ extra

pub grown_same : (lists : Lists) → Grown lists lists
grown_same lists = record { extra = []; is = sym (append-nil lists) }

pub grown_more : (a b c : Lists) → Grown a b → Grown b c → Grown a c
grown_more a b c g h = record { extra = g.extra ++ h.extra; is = h.is ∙ ap (λ x. x ++ h.extra) g.is ∙ append_assoc a g.extra h.extra }

-- a subquery with so many columns is there
pub record RowsAt (lists : Lists) (n width : ℕ) : Type 0 where
  pub plain : PlainPart
  pub there : slice_get lists n ≡ Some plain
  pub wide : length plain.items.items ≡ width

still_there : (lists extra : Lists) (n : ℕ) (p : PlainPart) → slice_get lists n ≡ Some p → slice_get (lists ++ extra) n ≡ Some p
still_there [] extra n p h = absurd cc
still_there (x ∷ xs) extra zero p h = h
still_there (x ∷ xs) extra (suc n) p h = still_there xs extra n p h

last_there : (lists : Lists) (p : PlainPart) → slice_get (lists ++ p ∷ []) (length lists) ≡ Some p
last_there [] p = refl
last_there (x ∷ xs) p = last_there xs p

rows_grow : (lists more : Lists) (n width : ℕ) → Grown lists more → RowsAt lists n width → RowsAt more n width
rows_grow lists more n width g r = record { plain = r.plain; there = ap (λ l. slice_get l n) g.is ∙ still_there lists g.extra n r.plain r.there; wide = r.wide }

abbrev pub ListsFit : Catalog → Lists → Type 0
ListsFit catalog lists = Each (λ (p : PlainPart). plain_fits catalog p ≡ true) lists

-- ---- what fits over these subqueries
module _ (s : FitScope) where
  abbrev pub RowIn : ℕ → List Expr → Type 0
  RowIn width row = (length row ≡ width) × (list_all (expression_fits s) row ≡ true)

  abbrev pub SourceIn : Lists → ℕ → ListSource → Type 0
  SourceIn lists width (source.Values rows) = Each (RowIn width) rows
  SourceIn lists width (source.Rows n) = RowsAt lists n width

  abbrev pub ItemIn : Lists → LeftItem → Type 0
  ItemIn lists (item.At e) = expression_fits s e ≡ true
  ItemIn lists (item.Sym t) = test_fits s t ≡ true
  ItemIn lists (item.List from) = SourceIn lists 1 from
  ItemIn lists (item.Steps start stop step down) = list_all (expression_fits s) (start ∷ stop ∷ step ∷ []) ≡ true

  abbrev pub LeftIn : Lists → Left → Type 0
  LeftIn lists (left.Places items) = (length items ≡ s.dims) × Each (ItemIn lists) items
  LeftIn lists (left.Tuples dims from) = (numbers_each_once s.dims dims ≡ true) × SourceIn lists s.dims from

  pub record RuleIn (lists : Lists) (r : Rule) : Type 0 where
    pub measure : nat_lt r.measure s.measures ≡ true
    pub left_fits : LeftIn lists r.left
    pub order : list_all (λ (key : ℕ × Bool). nat_lt key.0 s.dims) r.order ≡ true
    pub right : expression_fits s r.right ≡ true

  source_grows : (lists more : Lists) (width : ℕ) (x : ListSource) → Grown lists more → SourceIn lists width x → SourceIn more width x
  source_grows lists more width (source.Values rows) g h = h
  source_grows lists more width (source.Rows n) g h = rows_grow lists more n width g h

  pub item_grows : (lists more : Lists) (x : LeftItem) → Grown lists more → ItemIn lists x → ItemIn more x
  item_grows lists more (item.At e) g h = h
  item_grows lists more (item.Sym t) g h = h
  item_grows lists more (item.List from) g h = source_grows lists more 1 from g h
  item_grows lists more (item.Steps start stop step down) g h = h

  left_grows : (lists more : Lists) (x : Left) → Grown lists more → LeftIn lists x → LeftIn more x
  left_grows lists more (left.Places items) g h = (h.0, each_then (ItemIn lists) (ItemIn more) items (λ x. item_grows lists more x g) h.1)
  left_grows lists more (left.Tuples dims from) g h = (h.0, source_grows lists more s.dims from g h.1)

  pub rule_grows : (lists more : Lists) (r : Rule) → Grown lists more → RuleIn lists r → RuleIn more r
  rule_grows lists more r g h = record { measure = h.measure; left_fits = left_grows lists more r.left g h.left_fits; order = h.order; right = h.right }

-- ---- steps that hand on the subqueries
pub record Stepped {B : Type 0} (catalog : Catalog) (P : Lists → B → Type 0) (lists : Lists) (y : B × Lists) : Type 0 where
  pub grown : Grown lists y.1
  pub fit : ListsFit catalog y.1
  pub holds : P y.1 y.0

pub with_gives : {A B : Type 0} (catalog : Catalog) (f : Lists → A → Result (B × Lists) Refused) (Q : A → Type 0) (P : Lists → B → Type 0)
    → ((lists more : Lists) (y : B) → Grown lists more → P lists y → P more y)
    → ((lists : Lists) (x : A) → Q x → ListsFit catalog lists → (y : B × Lists) → f lists x ≡ Ok y → Stepped catalog P lists y)
    → (lists : Lists) (xs : List A) (ys : List B × Lists) → Each Q xs → ListsFit catalog lists → each_with f lists xs ≡ Ok ys → Stepped catalog (λ l zs. Each (P l) zs) lists ys
with_gives catalog f Q P grow step lists [] ys q l h =
    subst (Stepped catalog (λ l zs. Each (P l) zs) lists) (ok_is ([], lists) ys h) (record { grown = grown_same lists; fit = l; holds = tt })
with_gives {A} {B} catalog f Q P grow step lists (x ∷ xs) ys q l h =
    let next : B × Lists → Result (List B × Lists) Refused = λ y. each_with f y.1 xs >>= (λ ys. Ok (y.0 ∷ ys.0, ys.1)) in
    let w = went (f lists x) next ys h in
    let v = went (each_with f w.value.1 xs) (λ ys. Ok (w.value.0 ∷ ys.0, ys.1)) ys w.after in
    let a = step lists x q.0 l w.value w.first in
    let b = with_gives catalog f Q P grow step w.value.1 xs v.value q.1 a.fit v.first in
    subst (Stepped catalog (λ l zs. Each (P l) zs) lists) (ok_is (w.value.0 ∷ v.value.0, v.value.1) ys v.after) (record {
      grown = grown_more lists w.value.1 v.value.1 a.grown b.grown;
      fit = b.fit;
      holds = (grow w.value.1 v.value.1 w.value.0 b.grown a.holds, b.holds);
    })

pub with_long : {A B S : Type 0} (f : S → A → Result (B × S) Refused) (s : S) (xs : List A) (ys : List B × S) → each_with f s xs ≡ Ok ys → length ys.0 ≡ length xs
with_long {A} {B} {S} f s [] ys h = ap (λ (y : List B × S). length y.0) (sym (ok_is ([], s) ys h))
with_long {A} {B} {S} f s (x ∷ xs) ys h =
    let next : B × S → Result (List B × S) Refused = λ y. each_with f y.1 xs >>= (λ ys. Ok (y.0 ∷ ys.0, ys.1)) in
    let w = went (f s x) next ys h in
    let v = went (each_with f w.value.1 xs) (λ ys. Ok (w.value.0 ∷ ys.0, ys.1)) ys w.after in
    ap (λ (y : List B × S). length y.0) (sym (ok_is (w.value.0 ∷ v.value.0, v.value.1) ys v.after)) ∙ ap suc (with_long f w.value.1 xs v.value v.first)

from_grow : {B : Type 0} (P : ℕ → Lists → B → Type 0) → ((n : ℕ) (lists more : Lists) (y : B) → Grown lists more → P n lists y → P n more y) → (n : ℕ) (lists more : Lists) (ys : List B)
    → Grown lists more → EachFrom (λ m y. P m lists y) n ys → EachFrom (λ m y. P m more y) n ys
from_grow P grow n lists more [] g e = tt
from_grow P grow n lists more (y ∷ ys) g e = (grow n lists more y g e.0, from_grow P grow (n + 1) lists more ys g e.1)

with_from_gives : {A B : Type 0} (catalog : Catalog) (f : ℕ → Lists → A → Result (B × Lists) Refused) (Q : A → Type 0) (P : ℕ → Lists → B → Type 0)
    → ((n : ℕ) (lists more : Lists) (y : B) → Grown lists more → P n lists y → P n more y)
    → ((n : ℕ) (lists : Lists) (x : A) → Q x → ListsFit catalog lists → (y : B × Lists) → f n lists x ≡ Ok y → Stepped catalog (P n) lists y)
    → (n : ℕ) (lists : Lists) (xs : List A) (ys : List B × Lists) → Each Q xs → ListsFit catalog lists → each_with_from f n lists xs ≡ Ok ys → Stepped catalog (λ l zs. EachFrom (λ m y. P m l y) n zs) lists ys
with_from_gives catalog f Q P grow step n lists [] ys q l h =
    subst (Stepped catalog (λ l zs. EachFrom (λ m y. P m l y) n zs) lists) (ok_is ([], lists) ys h) (record { grown = grown_same lists; fit = l; holds = tt })
with_from_gives {A} {B} catalog f Q P grow step n lists (x ∷ xs) ys q l h =
    let next : B × Lists → Result (List B × Lists) Refused = λ y. each_with_from f (n + 1) y.1 xs >>= (λ ys. Ok (y.0 ∷ ys.0, ys.1)) in
    let w = went (f n lists x) next ys h in
    let v = went (each_with_from f (n + 1) w.value.1 xs) (λ ys. Ok (w.value.0 ∷ ys.0, ys.1)) ys w.after in
    let a = step n lists x q.0 l w.value w.first in
    let b = with_from_gives catalog f Q P grow step (n + 1) w.value.1 xs v.value q.1 a.fit v.first in
    subst (Stepped catalog (λ l zs. EachFrom (λ m y. P m l y) n zs) lists) (ok_is (w.value.0 ∷ v.value.0, v.value.1) ys v.after) (record {
      grown = grown_more lists w.value.1 v.value.1 a.grown b.grown;
      fit = b.fit;
      holds = (grow n w.value.1 v.value.1 w.value.0 b.grown a.holds, b.holds);
    })

same_of : (n m : ℕ) → (n == m) ≡ true → n ≡ m
same_of n m h = grind (arith, nat_tests)

same_below : (n m : ℕ) → (n == m) ≡ true → 0 + n ≤ m
same_below n m h = grind (arith, nat_tests)

below : (n m : ℕ) → n < m → nat_lt n m ≡ true
below n m h = grind (arith, nat_tests)

not_true : (b : Bool) → not b ≡ false → b ≡ true
not_true true h = refl
not_true false h = absurd cc

module _ (catalog : Catalog) (within : columns_within catalog ≡ true) (scope : Scope) (model : ModelWithin scope.model) where
  abbrev s : FitScope
  s = fit_scope [] scope

  -- an expression of a rule that stands in no bracket
  left_value : (e : E) → literals_fit e ≡ true → (f : Found) → bound scope e (standing part.Left) ≡ Ok f → expression_fits s f.e ≡ true
  left_value e lit f h = fits_of s false (is_inside (standing part.Left)) f.e (expr_fits [] scope model e lit (standing part.Left) (tt, tt) f h).fine refl

  -- ---- FOR
  pub record ForFits (lists : Lists) (width : ℕ) (g : ListFound) : Type 0 where
    pub grown : Grown lists g.lists
    pub fit : ListsFit catalog g.lists
    pub holds : SourceIn s g.lists width g.source

  row_exprs : (row : List Found) → Each (λ (f : Found). expression_fits s f.e ≡ true) row → list_all (expression_fits s) (exprs_of row) ≡ true
  row_exprs [] h = refl
  row_exprs (f ∷ fs) h = both (expression_fits s f.e) (list_all (expression_fits s) (exprs_of fs)) h.0 (row_exprs fs h.1)

  rows_in : (width : ℕ) (rows : List (List Found)) → Each (λ (row : List Found). Each (λ (f : Found). expression_fits s f.e ≡ true) row) rows → list_all (has_width width) (map kinds_of rows) ≡ true
      → Each (RowIn s width) (map exprs_of rows)
  rows_in width [] h k = tt
  rows_in width (row ∷ rows) h k =
      let n = same_of (length (kinds_of row)) width (left_of (has_width width (kinds_of row)) (list_all (has_width width) (map kinds_of rows)) k) in
      let l : length (exprs_of row) ≡ width = length-map row (λ (f : Found). f.e) ∙ sym (length-map row (λ (f : Found). f.kind)) ∙ n in
      ((l, row_exprs row h.0), rows_in width rows h.1 (right_of (has_width width (kinds_of row)) (list_all (has_width width) (map kinds_of rows)) k))

  list_fits : (lists : Lists) (list : ForList) → list_literals list ≡ true → ListsFit catalog lists → (width : ℕ) (g : ListFound) → list_bound catalog scope lists list ≡ Ok g → list_all (has_width width) g.kinds ≡ true → ForFits lists width g
  list_fits lists (for_list.Values rows) lit l width g h k =
      let w = went (each (value_row scope) rows) (λ found. Ok (values_found lists found)) g h in
      let e = ok_is (values_found lists w.value) g w.after in
      let all = each_gives (value_row scope) (λ (row : List E). list_all literals_fit row ≡ true) (λ (row : List Found). Each (λ (f : Found). expression_fits s f.e ≡ true) row)
      (λ row q fs c. each_gives (λ (e : E). bound scope e (standing part.Left)) (λ (e : E). literals_fit e ≡ true) (λ (f : Found). expression_fits s f.e ≡ true) left_value row fs (each_all literals_fit row q) c)
      rows w.value (each_all (list_all literals_fit) rows lit) w.first in
      let wide : list_all (has_width width) (map kinds_of w.value) ≡ true = ap (λ (g : ListFound). list_all (has_width width) g.kinds) e ∙ k in
      subst (ForFits lists width) e (record { grown = grown_same lists; fit = l; holds = rows_in width w.value all wide })
  list_fits lists (for_list.Rows p) lit l width g h k =
      let w = went (plain_bound catalog p) (λ found. Ok (rows_found lists found)) g h in
      let e = ok_is (rows_found lists w.value) g w.after in
      let plain = plain_fit catalog within p lit w.value w.first in
      let kinds = map (λ (c : Printed). c.kind) w.value.printed in
      let wide : (has_width width kinds && true) ≡ true = ap (λ (g : ListFound). list_all (has_width width) g.kinds) e ∙ k in
      let n = same_of (length kinds) width (left_of (has_width width kinds) true wide) in
      let m : length w.value.part.items.items ≡ width = sym plain.long ∙ sym (length-map w.value.printed (λ (c : Printed). c.kind)) ∙ n in
      subst (ForFits lists width) e (record {
        grown = record { extra = w.value.part ∷ []; is = refl };
        fit = each_append (λ (p : PlainPart). plain_fits catalog p ≡ true) lists (w.value.part ∷ []) l (plain.fits, tt);
        holds = record { plain = w.value.part; there = last_there lists w.value.part; wide = m };
      })

  -- with what it stands for
  for_fits : (lists : Lists) (list : ForList) → list_literals list ≡ true → ListsFit catalog lists → (dims : List (Option ExprKind)) (is_named : Bool) (g : ListFound)
      → (list_bound catalog scope lists list >>= for_checked dims is_named) ≡ Ok g → ForFits lists (length dims) g × (is_named ≡ true)
  for_fits lists list lit l dims is_named g h =
      let w = went (list_bound catalog scope lists list) (for_checked dims is_named) g h in
      let p = passed (not (list_all (row_fits dims) w.value.kinds)) kind_mismatch (refused_where (not (is_named && list_all (has_width (length dims)) w.value.kinds)) (misuse MISUSE_OF_FOR) (Ok w.value)) g w.after in
      let q = passed (not (is_named && list_all (has_width (length dims)) w.value.kinds)) (misuse MISUSE_OF_FOR) (Ok w.value) g p.after in
      let t = not_true (is_named && list_all (has_width (length dims)) w.value.kinds) q.holds_not in (
        subst (ForFits lists (length dims)) (ok_is w.value g q.after)
            (list_fits lists list lit l (length dims) w.value w.first (right_of is_named (list_all (has_width (length dims)) w.value.kinds) t)),
        left_of is_named (list_all (has_width (length dims)) w.value.kinds) t,
      )

  -- ---- places of a left side
  abbrev item_by : Test → layer.Test-F Expr Leaf Test BoundArm BoundProd BoundSum → LeftItem
  item_by t y = elim y [ layer.At e ↦ item.At e | _ ↦ item.Sym t ]

  by_test : (lists : Lists) (t : Test) (y : layer.Test-F Expr Leaf Test BoundArm BoundProd BoundSum) → test_fits s t ≡ true → test_fits s (roll-Test y) ≡ true → ItemIn s lists (item_by t y)
  by_test lists t (layer.At e) h k = left_of (expression_fits s e) (list_all is_inner (leaves_of e)) (sym (at_fits s e) ∙ ap (test_fits s) (sym (test.rolls-At e)) ∙ k)
  by_test lists t _ h k = h

  left_item_fits : (lists : Lists) (t : Test) → test_fits s t ≡ true → ItemIn s lists (left_item t)
  left_item_fits lists t h = by_test lists t (out-Test t) h (ap (test_fits s) (roll-out-Test t) ∙ h)

  expression_fits_at : (n : ℕ) (lists : Lists) (e : E) → literals_fit e ≡ true → PlaceFits scope owner.Main n → (x : LeftItem) → expression_place scope n e ≡ Ok x → ItemIn s lists x
  expression_fits_at n lists e lit l x h =
      let at = bracketed (standing part.Left) owner.Main n (is_condition e) in
      let w = went (bound scope e at >>= place_of (place_kind scope owner.Main n) e) (λ (p : Placed). Ok (left_item p.test)) x h in
      let k = placed_fits [] scope model e (expr_fits [] scope model e) lit (standing part.Left) (tt, tt) refl owner.Main n l w.value w.first in
      subst (ItemIn s lists) (ok_is (left_item w.value.test) x w.after) (left_item_fits lists w.value.test k)

  steps_fit_at : (n : ℕ) (lists : Lists) (dim : Name) (down : Bool) (start stop step : E) → (literals_fit start && literals_fit stop && literals_fit step) ≡ true → (x : LeftItem)
      → steps_place scope n dim down start stop step ≡ Ok x → ItemIn s lists x
  steps_fit_at n lists dim down start stop step lit x h =
      let at = standing part.Left in
      let a = went (bound scope start at) (λ a. bound scope stop at >>= (λ b. bound scope step at >>= steps_checked scope n dim down a b)) x h in
      let b = went (bound scope stop at) (λ b. bound scope step at >>= steps_checked scope n dim down a.value b) x a.after in
      let c = went (bound scope step at) (steps_checked scope n dim down a.value b.value) x b.after in
      let made = item.Steps a.value.e b.value.e c.value.e down in
      let p = passed (not (steps_fit (place_kind scope owner.Main n) a.value.kind b.value.kind c.value.kind)) kind_mismatch (refused_where (not (names_place scope n dim)) (misuse MISUSE_OF_FOR) (Ok made)) x c.after in
      let q = passed (not (names_place scope n dim)) (misuse MISUSE_OF_FOR) (Ok made) x p.after in
      let front = left_of (literals_fit start && literals_fit stop) (literals_fit step) lit in
      let fa = left_value start (left_of (literals_fit start) (literals_fit stop) front) a.value a.first in
      let fb = left_value stop (right_of (literals_fit start) (literals_fit stop) front) b.value b.first in
      let fc = left_value step (right_of (literals_fit start && literals_fit stop) (literals_fit step) lit) c.value c.first in
      let fit = expression_fits s in
      subst (ItemIn s lists) (ok_is made x q.after)
      (both (fit a.value.e) (fit b.value.e && (fit c.value.e && true)) fa (both (fit b.value.e) (fit c.value.e && true) fb (both (fit c.value.e) true fc refl)))

  -- a place, where it has a dimension
  abbrev PlaceIn : ℕ → Lists → LeftItem → Type 0
  PlaceIn n lists x = nat_lt n (length scope.model.dims) ≡ true → ItemIn s lists x

  place_grows : (n : ℕ) (lists more : Lists) (y : LeftItem) → Grown lists more → PlaceIn n lists y → PlaceIn n more y
  place_grows n lists more y g h l = item_grows s lists more y g (h l)

  abbrev PlaceStep : ℕ → Lists → LeftItem × Lists → Type 0
  PlaceStep n lists y = Stepped catalog (PlaceIn n) lists y

  place_step : (n : ℕ) (lists : Lists) (p : LeftPlace) → left_place_literals p ≡ true → ListsFit catalog lists → (y : LeftItem × Lists) → left_place catalog scope n lists p ≡ Ok y → PlaceStep n lists y
  place_step n lists place.Any lit l y h =
      subst (PlaceStep n lists) (ok_is (item.Sym test.Any, lists) y h) (record { grown = grown_same lists; fit = l; holds = λ k. any_fits s })
  place_step n lists (place.Expr e) lit l y h =
      let w = went (expression_place scope n e) (λ i. Ok (with_lists lists i)) y h in
      subst (PlaceStep n lists) (ok_is (w.value, lists) y w.after) (record { grown = grown_same lists; fit = l; holds = λ k. expression_fits_at n lists e lit k w.value w.first })
  place_step n lists (place.ForIn dim list) lit l y h =
      let w = went (list_bound catalog scope lists list >>= for_checked (place_kind scope owner.Main n ∷ []) (names_place scope n dim)) (λ (found : ListFound). Ok (with_lists found.lists (item.List found.source))) y h in
      let f = (for_fits lists list lit l (place_kind scope owner.Main n ∷ []) (names_place scope n dim) w.value w.first).0 in
      subst (PlaceStep n lists) (ok_is (item.List w.value.source, w.value.lists) y w.after) (record { grown = f.grown; fit = f.fit; holds = λ k. f.holds })
  place_step n lists (place.ForRange dim start stop step down) lit l y h =
      let w = went (steps_place scope n dim down start stop step) (λ i. Ok (with_lists lists i)) y h in
      subst (PlaceStep n lists) (ok_is (w.value, lists) y w.after) (record { grown = grown_same lists; fit = l; holds = λ k. steps_fit_at n lists dim down start stop step lit w.value w.first })

  -- ---- left sides
  pub record LeftFits (lists : Lists) (x : LeftFound) : Type 0 where
    pub grown : Grown lists x.lists
    pub fit : ListsFit catalog x.lists
    pub holds : LeftIn s x.lists x.left

  numbers_long : (names : List Name) (ns : List ℕ) → numbers_called scope names ≡ Some ns → length ns ≡ length names
  numbers_long [] ns h = ap length (sym (just_is [] ns h))
  numbers_long (name ∷ names) ns h =
      let a = chained (λ n. option_map (λ (ns : List ℕ). n ∷ ns) (numbers_called scope names)) (dimension_called scope name) ns h in
      let b = mapped (λ (ns : List ℕ). a.0 ∷ ns) (numbers_called scope names) ns a.2 in
      ap length (sym b.2) ∙ ap suc (numbers_long names b.0 b.1)

  each_once : (numbers : Option (List ℕ)) (ns : List ℕ) → numbers ≡ Some ns → names_each scope numbers ≡ true → numbers_each_once (length scope.model.dims) ns ≡ true
  each_once numbers ns h k = sym (ap (names_each scope) h) ∙ k

  pub left_fits_bound : (lists : Lists) (t : LeftTree) → left_literals t ≡ true → ListsFit catalog lists → (x : LeftFound) → left_bound catalog scope lists t ≡ Ok x → LeftFits lists x
  left_fits_bound lists (tree.Places places) lit l x h =
      let made : List LeftItem × Lists → LeftFound = λ found. record { left = left.Places found.0; lists = found.1 } in
      let next : List LeftItem × Lists → Result LeftFound Refused = λ found. refused_where (other_place_count scope owner.Main (length found.0)) (misuse MISUSE_OF_PLACE_COUNT) (Ok (made found)) in
      let w = went (left_places catalog scope lists places) next x h in
      let p = passed (other_place_count scope owner.Main (length w.value.0)) (misuse MISUSE_OF_PLACE_COUNT) (Ok (made w.value)) x w.after in
      let a = with_from_gives catalog (left_place catalog scope) (λ (p : LeftPlace). left_place_literals p ≡ true) PlaceIn place_grows place_step 0 lists places w.value (each_all left_place_literals places lit) l w.first in
      let n = not_true (length w.value.0 == length scope.model.dims) p.holds_not in
      subst (LeftFits lists) (ok_is (made w.value) x p.after) (record {
        grown = a.grown;
        fit = a.fit;
        holds = (
          same_of (length w.value.0) (length scope.model.dims) n,
          all_below (ItemIn s w.value.1) (length scope.model.dims) 0 w.value.0 (same_below (length w.value.0) (length scope.model.dims) n) a.holds,
        );
      })
  left_fits_bound lists (tree.Tuples dims list) lit l x h =
      let numbers = numbers_called scope dims in
      let w = went (list_bound catalog scope lists list >>= for_checked (map (kind_called scope) dims) (names_each scope numbers)) (tuples_found numbers) x h in
      let f = for_fits lists list lit l (map (kind_called scope) dims) (names_each scope numbers) w.value w.first in
      let made : List ℕ → LeftFound = λ ns. record { left = left.Tuples ns w.value.source; lists = w.value.lists } in
      let v = went (ok_or numbers (misuse MISUSE_OF_FOR)) (λ ns. Ok (made ns)) x w.after in
      let e = some_is numbers (misuse MISUSE_OF_FOR) v.value v.first in
      let once = each_once numbers v.value e f.1 in
      let rest = list_all (λ k. length (filter (λ j. j == k) v.value) == 1) (range_with_len 0 (length scope.model.dims)) in
      let n : length (map (kind_called scope) dims) ≡ length scope.model.dims =
      length-map dims (kind_called scope) ∙ sym (numbers_long dims v.value e) ∙ same_of (length v.value) (length scope.model.dims) (left_of (length v.value == length scope.model.dims) rest once) in
      subst (LeftFits lists) (ok_is (made v.value) x v.after) (record {
        grown = f.0.grown;
        fit = f.0.fit;
        holds = (once, subst (λ n. SourceIn s w.value.lists n w.value.source) n f.0.holds);
      })

  -- ---- ORDER BY and the right side
  key_fits : (key : OrderKey) (y : ℕ × Bool) → left_key scope key ≡ Ok y → nat_lt y.0 (length scope.model.dims) ≡ true
  key_fits key y h =
      let w = went (ok_or (dimension_called scope key.name) (misuse MISUSE_OF_ORDER)) (λ n. Ok (n, key.desc)) y h in
      let e = some_is (dimension_called scope key.name) (misuse MISUSE_OF_ORDER) w.value w.first in
      let none : Named = record { name = []; kind = kind.Null } in
      let l = below w.value (length scope.model.dims) (position-Some (λ (d : Named). is_name (folded key.name) d.name) scope.model.dims w.value none e).0 in
      subst (λ (y : ℕ × Bool). nat_lt y.0 (length scope.model.dims) ≡ true) (ok_is (w.value, key.desc) y w.after) l

  anything : {A : Type 0} (xs : List A) → Each (λ (x : A). Unit {0}) xs
  anything [] = tt
  anything (x ∷ xs) = (tt, anything xs)

  order_fits : (auto : Bool) (x : Left) (keys : List OrderKey) (ys : List (ℕ × Bool)) → left_order scope auto x keys ≡ Ok ys → list_all (λ (key : ℕ × Bool). nat_lt key.0 (length scope.model.dims)) ys ≡ true
  order_fits auto x [] ys h = ap (list_all (λ (key : ℕ × Bool). nat_lt key.0 (length scope.model.dims))) (sym (ok_is [] ys h))
  order_fits auto x (key ∷ keys) ys h =
      let p = passed (auto || not (is_symbolic x)) (misuse MISUSE_OF_ORDER) (each (left_key scope) (key ∷ keys)) ys h in
      all_each (λ (key : ℕ × Bool). nat_lt key.0 (length scope.model.dims)) ys
      (each_gives (left_key scope) (λ (k : OrderKey). Unit {0}) (λ (y : ℕ × Bool). nat_lt y.0 (length scope.model.dims) ≡ true) (λ k q. key_fits k) (key ∷ keys) ys (anything (key ∷ keys)) p.after)

  right_fits : (measure : ExprKind) (r : RuleTree) → literals_fit r.right ≡ true → (f : Found) → right_bound scope measure r ≡ Ok f → expression_fits s f.e ≡ true
  right_fits measure r lit f h =
      let w = went (bound scope r.right (standing part.Right)) (λ f. refused_where (not (is_assignable measure f.kind)) kind_mismatch (Ok f)) f h in
      let p = passed (not (is_assignable measure w.value.kind)) kind_mismatch (Ok w.value) f w.after in
      let k = expr_fits [] scope model r.right lit (standing part.Right) (tt, tt) w.value w.first in
      subst (λ (f : Found). expression_fits s f.e ≡ true) (ok_is w.value f p.after) (fits_of s false (is_inside (standing part.Right)) w.value.e k.fine refl)

  -- ---- rules
  abbrev RuleStep : Lists → Rule × Lists → Type 0
  RuleStep lists y = Stepped catalog (RuleIn s) lists y

  rule_step : (mode : Mode) (auto : Bool) (lists : Lists) (r : RuleTree) → rule_literals r ≡ true → ListsFit catalog lists → (y : Rule × Lists) → rule_bound catalog scope mode auto lists r ≡ Ok y → RuleStep lists y
  rule_step mode auto lists r lit l y h =
      let w = went (called (folded r.measure) scope.model.measures) (λ measure. left_bound catalog scope lists r.left >>= rule_behind scope mode auto r measure) y h in
      let v = went (left_bound catalog scope lists r.left) (rule_behind scope mode auto r w.value) y w.after in
      let made : List (ℕ × Bool) → Found → Rule × Lists = λ order right. (rule_of mode r w.value.0 v.value.left order right, v.value.lists) in
      let u = went (left_order scope auto v.value.left r.order) (λ order. right_bound scope w.value.1 r >>= (λ right. Ok (made order right))) y v.after in
      let t = went (right_bound scope w.value.1 r) (λ right. Ok (made u.value right)) y u.after in
      let m = called_fits (folded r.measure) scope.model.measures w.value w.first model.measures in
      let f = left_fits_bound lists r.left (left_of (left_literals r.left) (literals_fit r.right) lit) l v.value v.first in
      subst (RuleStep lists) (ok_is (made u.value t.value) y t.after) (record {
        grown = f.grown;
        fit = f.fit;
        holds = record {
          measure = m.0;
          left_fits = f.holds;
          order = order_fits auto v.value.left r.order u.value u.first;
          right = right_fits w.value.1 r (right_of (left_literals r.left) (literals_fit r.right) lit) t.value t.first;
        };
      })

  pub rules_fit : (mode : Mode) (auto : Bool) (rs : List RuleTree) → list_all rule_literals rs ≡ true → (ys : List Rule × Lists) → rules_bound catalog scope mode auto rs ≡ Ok ys
      → Stepped catalog (λ l zs. Each (RuleIn s l) zs) [] ys × (length ys.0 ≡ length rs)
  rules_fit mode auto rs lit ys h = (
    with_gives catalog (rule_bound catalog scope mode auto) (λ (r : RuleTree). rule_literals r ≡ true) (RuleIn s) (rule_grows s) (rule_step mode auto) [] rs ys (each_all rule_literals rs lit) tt h,
    with_long (rule_bound catalog scope mode auto) [] rs ys h,
  )
