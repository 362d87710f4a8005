-- What is asked of a bound expression where it stands holds of each that is made of such.
use Rattle.std.specs.Prelude.{◌≡◌, List, [], ◌∷◌, ◌++◌, length, Bool, true, false, ◌&&◌, ◌||◌, Option, None, flat_map, refl}
use Rattle.std.specs.List.{list_all, list_any}
use Rattle.std.proofs.Common.{sym, ap, ◌∙◌}
use Rattle.mq_values.specs.declared.operators.CmpOp.{CmpOp}
use Rattle.mq_values.specs.declared.operators.Func.{Func}
use Rattle.mq_values.specs.declared.value.Kind.{Kind}
use Rattle.mq_values.specs.declared.value.Value.{Value}
use Rattle.mq_ir.specs.declared.expression.BoundArm.{BoundArm}
use Rattle.mq_ir.specs.declared.expression.BoundProd.{BoundProd}
use Rattle.mq_ir.specs.declared.expression.BoundSum.{BoundSum}
use Rattle.mq_ir.specs.declared.expression.Expr.{Expr}
use Rattle.mq_ir.specs.declared.expression.Expr.TheVariants as e
use Rattle.mq_ir.specs.declared.expression.Leaf.{Leaf}
use Rattle.mq_ir.specs.declared.expression.Test.TheVariants as test
use Rattle.mq_ir.specs.FitsExpression.{Scope, call_fits, expression_fits, is_inner, kind_fits, test_fits}
use Rattle.mq_ir.specs.LeavesLaws.{leaves_and, leaves_between, leaves_call, leaves_case, leaves_cast, leaves_cmp, leaves_convert, leaves_in, leaves_is_null, leaves_leaf, leaves_lit, leaves_neg, leaves_not, leaves_or, leaves_prod, leaves_sum, leaves_where_any}
use Rattle.mq_ir.specs.Looks.{Leaves, leaves_of}
use Rattle.mq_bind_expr.specs.DimensionLaws.{names_and, names_between, names_call, names_case, names_cast, names_cmp, names_convert, names_in, names_is_null, names_leaf, names_neg, names_not, names_or, names_prod, names_sum}
use Rattle.mq_bind_expr.specs.DimensionRolls.{case_arm_names, names_where_any, prod_term_names, sum_term_names}
use Rattle.mq_bind_expr.specs.Dimensions.{is_column_leaf, is_dimension, names_dimension}
use Rattle.mq_bind_expr.specs.PlaceLaws.{none_call, none_case, none_cast, none_convert, none_is_present, none_leaf, none_lit, none_neg, none_presentnnv, none_presentv, none_prod, none_sum, test_and, test_between, test_cmp, test_in, test_is_null, test_not, test_or, tests_all}
use Rattle.mq_bind_expr.specs.PlaceTests.{is_free, negated_test, test_of}
use Rattle.mq_binder.proofs.FitsLemmas.{and_fits, between_fits, case_arm_fits, cmp_fits, fits_and, fits_between, fits_call, fits_case, fits_cast, fits_cmp, fits_convert, fits_in, fits_is_null, fits_is_present, fits_leaf, fits_lit, fits_neg, fits_not, fits_or, fits_present_nnv, fits_present_v, fits_prod, fits_sum, fits_where_any, flat_fit, in_fits, leaf_fit, not_fits, null_fits, or_fits, prod_term_fits, sum_term_fits}
use Rattle.mq_binder.proofs.SoundLemmas.{Fine, Sound, SoundExpr, all_free_fit, all_sound, all_tests_fit, also, as_sound, chosen, clash, free_fits, join, mapped, negated_fits, untested}
use Rattle.mq_binder.proofs.FitStepLemmas.{Each, both, left_of, right_of}

module _ (s : Scope) (c i : Bool) where
  sounds : (es : List Expr) → Each (Fine s c i) es → Each (SoundExpr s c i) es
  sounds [] h = tt
  sounds (x ∷ xs) h = (h.0.sound, sounds xs h.1)

  all_fine : (es : List Expr) → Each (Fine s c i) es → Sound c i (list_any names_dimension es) (list_all (expression_fits s) es) (flat_map leaves_of es)
  all_fine es h = all_sound c i names_dimension (expression_fits s) leaves_of es (sounds es h)

  -- an expression with the same names, tests and leaves
  same : (x : Expr) (n a : Bool) (ls : Leaves) → names_dimension x ≡ n → expression_fits s x ≡ a → leaves_of x ≡ ls → Sound c i n a ls → SoundExpr s c i x
  same x n a ls f g k h = as_sound c i n (names_dimension x) a (expression_fits s x) ls (leaves_of x) f g k h

  pub fine_or : (es : List Expr) → Each (Fine s c i) es → Fine s c i (e.Or es)
  fine_or es h = record {
    sound = same (e.Or es) (list_any names_dimension es) (list_all (expression_fits s) es) (flat_map leaves_of es) (names_or es) (fits_or s es) (leaves_or es) (all_fine es h);
    tests = λ k t g.
        let m = mapped test.Or (tests_all es) t (sym (test_or es) ∙ g) in
        ap (test_fits s) (sym m.2) ∙ or_fits s m.0 ∙ all_tests_fit s c i es m.0 h k m.1;
  }

  pub fine_and : (es : List Expr) → Each (Fine s c i) es → Fine s c i (e.And es)
  fine_and es h = record {
    sound = same (e.And es) (list_any names_dimension es) (list_all (expression_fits s) es) (flat_map leaves_of es) (names_and es) (fits_and s es) (leaves_and es) (all_fine es h);
    tests = λ k t g.
        let m = mapped test.And (tests_all es) t (sym (test_and es) ∙ g) in
        ap (test_fits s) (sym m.2) ∙ and_fits s m.0 ∙ all_tests_fit s c i es m.0 h k m.1;
  }

  pub fine_not : (a : Expr) → Fine s c i a → Fine s c i (e.Not a)
  fine_not a h = record {
    sound = same (e.Not a) (names_dimension a) (expression_fits s a) (leaves_of a) (names_not a) (fits_not s a) (leaves_not a) h.sound;
    tests = λ k t g.
        let m = mapped test.Not (test_of a) t (sym (test_not a) ∙ g) in
        ap (test_fits s) (sym m.2) ∙ not_fits s m.0 ∙ h.tests k m.0 m.1;
  }

  pub fine_cmp : (a : Expr) (op : CmpOp) (b : Expr) → Fine s c i a → Fine s c i b → Fine s c i (e.Cmp a op b)
  fine_cmp a op b h k = record {
    sound =
        same (e.Cmp a op b) (names_dimension a || names_dimension b) (expression_fits s a && expression_fits s b) (leaves_of a ++ leaves_of b)
        (names_cmp a op b) (fits_cmp s a op b) (leaves_cmp a op b)
        (join c i (names_dimension a) (names_dimension b) (expression_fits s a) (expression_fits s b) (leaves_of a) (leaves_of b) h.sound k.sound);
    tests = λ q t g.
        let m = chosen (is_dimension a && is_free b) (test.Cmp op b) t (sym (test_cmp a op b) ∙ g) in
        ap (test_fits s) (sym m.1) ∙ cmp_fits s op b ∙ free_fits s c i b k q (right_of (is_dimension a) (is_free b) m.0);
  }

  pub fine_between : (a : Expr) (negated : Bool) (b d : Expr) → Fine s c i a → Fine s c i b → Fine s c i d → Fine s c i (e.Between a negated b d)
  fine_between a negated b d h k m = record {
    sound =
        same (e.Between a negated b d) (names_dimension a || names_dimension b || names_dimension d) (expression_fits s a && expression_fits s b && expression_fits s d)
        (leaves_of a ++ leaves_of b ++ leaves_of d) (names_between a negated b d) (fits_between s a negated b d) (leaves_between a negated b d)
        (join c i (names_dimension a || names_dimension b) (names_dimension d) (expression_fits s a && expression_fits s b) (expression_fits s d) (leaves_of a ++ leaves_of b) (leaves_of d)
        (join c i (names_dimension a) (names_dimension b) (expression_fits s a) (expression_fits s b) (leaves_of a) (leaves_of b) h.sound k.sound) m.sound);
    tests = λ q t g.
        let n = chosen (is_dimension a && is_free b && is_free d) (negated_test negated (test.Between b d)) t (sym (test_between a negated b d) ∙ g) in
        let f = left_of (is_dimension a && is_free b) (is_free d) n.0 in
        negated_fits s negated (test.Between b d) t n.1
        (between_fits s b d ∙ both (flat_fit s b) (flat_fit s d) (free_fits s c i b k q (right_of (is_dimension a) (is_free b) f)) (free_fits s c i d m q (right_of (is_dimension a && is_free b) (is_free d) n.0)));
  }

  pub fine_in : (a : Expr) (negated : Bool) (es : List Expr) → Fine s c i a → Each (Fine s c i) es → Fine s c i (e.InList a negated es)
  fine_in a negated es h k = record {
    sound =
        same (e.InList a negated es) (names_dimension a || list_any names_dimension es) (expression_fits s a && list_all (expression_fits s) es) (leaves_of a ++ flat_map leaves_of es)
        (names_in a negated es) (fits_in s a negated es) (leaves_in a negated es)
        (join c i (names_dimension a) (list_any names_dimension es) (expression_fits s a) (list_all (expression_fits s) es) (leaves_of a) (flat_map leaves_of es) h.sound (all_fine es k));
    tests = λ q t g.
        let n = chosen (is_dimension a && list_all is_free es) (negated_test negated (test.In es)) t (sym (test_in a negated es) ∙ g) in
        negated_fits s negated (test.In es) t n.1 (in_fits s es ∙ all_free_fit s c i es k q (right_of (is_dimension a) (list_all is_free es) n.0));
  }

  pub fine_is_null : (a : Expr) (negated : Bool) → Fine s c i a → Fine s c i (e.IsNull a negated)
  fine_is_null a negated h = record {
    sound = same (e.IsNull a negated) (names_dimension a) (expression_fits s a) (leaves_of a) (names_is_null a negated) (fits_is_null s a negated) (leaves_is_null a negated) h.sound;
    tests = λ q t g.
        let n = chosen (is_dimension a) (negated_test negated test.Null) t (sym (test_is_null a negated) ∙ g) in
        negated_fits s negated test.Null t n.1 (null_fits s);
  }

  pub fine_neg : (a : Expr) → Fine s c i a → Fine s c i (e.Neg a)
  fine_neg a h = record {
    sound = same (e.Neg a) (names_dimension a) (expression_fits s a) (leaves_of a) (names_neg a) (fits_neg s a) (leaves_neg a) h.sound;
    tests = untested s i (e.Neg a) (none_neg a);
  }

  pub fine_lit : (v : Value) → Fine s c i (e.Lit v)
  fine_lit v = record { sound = (λ k. fits_lit s v, λ k. ap (list_all is_inner) (leaves_lit v)); tests = untested s i (e.Lit v) (none_lit v) }

  pub fine_cast : (a : Expr) (k : Kind) → Fine s c i a → kind_fits k ≡ true → Fine s c i (e.Cast a k)
  fine_cast a k h m = record {
    sound =
        same (e.Cast a k) (names_dimension a) (expression_fits s a && kind_fits k) (leaves_of a) (names_cast a k) (fits_cast s a k) (leaves_cast a k)
        (also c i (names_dimension a) (expression_fits s a) (kind_fits k) (leaves_of a) h.sound m);
    tests = untested s i (e.Cast a k) (none_cast a k);
  }

  pub fine_convert : (a : Expr) (k : Kind) → Fine s c i a → kind_fits k ≡ true → Fine s c i (e.Convert a k)
  fine_convert a k h m = record {
    sound =
        same (e.Convert a k) (names_dimension a) (expression_fits s a && kind_fits k) (leaves_of a) (names_convert a k) (fits_convert s a k) (leaves_convert a k)
        (also c i (names_dimension a) (expression_fits s a) (kind_fits k) (leaves_of a) h.sound m);
    tests = untested s i (e.Convert a k) (none_convert a k);
  }

  pub fine_call : (f : Func) (es : List Expr) → call_fits f (length es) ≡ true → Each (Fine s c i) es → Fine s c i (e.Call f es)
  fine_call f es h k =
      let all = all_fine es k in
      record {
        sound = (
          λ q. fits_call s f es ∙ both (call_fits f (length es)) (list_all (expression_fits s) es) h (all.0 (ap (λ b. c && b) (sym (names_call f es)) ∙ q)),
          λ q. ap (list_all is_inner) (leaves_call f es) ∙ all.1 q,
        );
        tests = untested s i (e.Call f es) (none_call f es);
      }

  -- chains of terms
  sum_sounds : (ts : List BoundSum) → Each (λ (t : BoundSum). Fine s c i t.e) ts → Each (λ (t : BoundSum). SoundExpr s c i t.e) ts
  sum_sounds [] h = tt
  sum_sounds (x ∷ xs) h = (h.0.sound, sum_sounds xs h.1)

  prod_sounds : (ts : List BoundProd) → Each (λ (t : BoundProd). Fine s c i t.e) ts → Each (λ (t : BoundProd). SoundExpr s c i t.e) ts
  prod_sounds [] h = tt
  prod_sounds (x ∷ xs) h = (h.0.sound, prod_sounds xs h.1)

  pub fine_sum : (a : Expr) (ts : List BoundSum) → Fine s c i a → Each (λ (t : BoundSum). Fine s c i t.e) ts → Fine s c i (e.Sum a ts)
  fine_sum a ts h k = record {
    sound =
        same (e.Sum a ts) (names_dimension a || list_any sum_term_names ts) (expression_fits s a && list_all (sum_term_fits s) ts) (leaves_of a ++ flat_map (λ (t : BoundSum). leaves_of t.e) ts)
        (names_sum a ts) (fits_sum s a ts) (leaves_sum a ts)
        (join c i (names_dimension a) (list_any sum_term_names ts) (expression_fits s a) (list_all (sum_term_fits s) ts) (leaves_of a) (flat_map (λ (t : BoundSum). leaves_of t.e) ts) h.sound
        (all_sound c i sum_term_names (sum_term_fits s) (λ (t : BoundSum). leaves_of t.e) ts (sum_sounds ts k)));
    tests = untested s i (e.Sum a ts) (none_sum a ts);
  }

  pub fine_prod : (a : Expr) (ts : List BoundProd) → Fine s c i a → Each (λ (t : BoundProd). Fine s c i t.e) ts → Fine s c i (e.Prod a ts)
  fine_prod a ts h k = record {
    sound =
        same (e.Prod a ts) (names_dimension a || list_any prod_term_names ts) (expression_fits s a && list_all (prod_term_fits s) ts) (leaves_of a ++ flat_map (λ (t : BoundProd). leaves_of t.e) ts)
        (names_prod a ts) (fits_prod s a ts) (leaves_prod a ts)
        (join c i (names_dimension a) (list_any prod_term_names ts) (expression_fits s a) (list_all (prod_term_fits s) ts) (leaves_of a) (flat_map (λ (t : BoundProd). leaves_of t.e) ts) h.sound
        (all_sound c i prod_term_names (prod_term_fits s) (λ (t : BoundProd). leaves_of t.e) ts (prod_sounds ts k)));
    tests = untested s i (e.Prod a ts) (none_prod a ts);
  }

  -- CASE
  abbrev pub arm_leaves : BoundArm → Leaves
  arm_leaves a = leaves_of a.test ++ leaves_of a.value

  abbrev pub ArmSound : BoundArm → Type 0
  ArmSound a = Sound c i (case_arm_names a) (case_arm_fits s a) (arm_leaves a)

  pub arm_sound : (a : BoundArm) → Fine s c i a.test → Fine s c i a.value → ArmSound a
  arm_sound a h k =
      join c i (names_dimension a.test) (names_dimension a.value) (expression_fits s a.test) (expression_fits s a.value) (leaves_of a.test) (leaves_of a.value) h.sound k.sound

  abbrev pub SoundIfAny : Option Expr → Type 0
  SoundIfAny x = Sound c i (names_where_any x) (fits_where_any s x) (leaves_where_any x)

  pub none_sound : SoundIfAny None
  none_sound = (λ k. refl, λ k. refl)

  pub fine_case : (of : Option Expr) (arms : List BoundArm) (or_else : Option Expr) → SoundIfAny of → Each ArmSound arms → SoundIfAny or_else → Fine s c i (e.Case of arms or_else)
  fine_case of arms or_else h k m = record {
    sound =
        same (e.Case of arms or_else) (names_where_any of || list_any case_arm_names arms || names_where_any or_else) (fits_where_any s of && list_all (case_arm_fits s) arms && fits_where_any s or_else)
        (leaves_where_any of ++ flat_map arm_leaves arms ++ leaves_where_any or_else) (names_case of arms or_else) (fits_case s of arms or_else) (leaves_case of arms or_else)
        (join c i (names_where_any of || list_any case_arm_names arms) (names_where_any or_else) (fits_where_any s of && list_all (case_arm_fits s) arms) (fits_where_any s or_else)
        (leaves_where_any of ++ flat_map arm_leaves arms) (leaves_where_any or_else)
        (join c i (names_where_any of) (list_any case_arm_names arms) (fits_where_any s of) (list_all (case_arm_fits s) arms) (leaves_where_any of) (flat_map arm_leaves arms) h
        (all_sound c i case_arm_names (case_arm_fits s) arm_leaves arms k)) m);
    tests = untested s i (e.Case of arms or_else) (none_case of arms or_else);
  }

  -- leaves: one that may stand inside a leaf, and one that stands where that is not asked
  pub fine_inner : (x : Leaf) → leaf_fit s x ≡ true → is_inner x ≡ true → Fine s c i (e.Leaf x)
  fine_inner x h k = record {
    sound = (λ q. fits_leaf s x ∙ h, λ q. ap (list_all is_inner) (leaves_leaf x) ∙ ap (λ b. b && true) k);
    tests = untested s i (e.Leaf x) (none_leaf x);
  }

  -- in a condition of a place, the column that stands for its dimension
  pub fine_column : (x : Leaf) → is_column_leaf x ≡ true → c ≡ true → is_inner x ≡ true → Fine s c i (e.Leaf x)
  fine_column x h g k = record {
    sound = (λ q. clash (c && names_dimension (e.Leaf x)) q (both c (names_dimension (e.Leaf x)) g (names_leaf x ∙ h)), λ q. ap (list_all is_inner) (leaves_leaf x) ∙ ap (λ b. b && true) k);
    tests = untested s i (e.Leaf x) (none_leaf x);
  }

  pub fine_outer : (x : Leaf) → i ≡ false → leaf_fit s x ≡ true → Fine s c i (e.Leaf x)
  fine_outer x g h = record { sound = (λ q. fits_leaf s x ∙ h, λ q. clash i g q); tests = untested s i (e.Leaf x) (none_leaf x) }

  pub fine_is_present : (x : Leaf) (negated : Bool) → i ≡ false → leaf_fit s x ≡ true → Fine s c i (e.IsPresent x negated)
  fine_is_present x negated g h = record { sound = (λ q. fits_is_present s x negated ∙ h, λ q. clash i g q); tests = untested s i (e.IsPresent x negated) (none_is_present x negated) }

  pub fine_present_v : (x : Leaf) (a b : Expr) → i ≡ false → leaf_fit s x ≡ true → expression_fits s a ≡ true → expression_fits s b ≡ true → Fine s c i (e.PresentV x a b)
  fine_present_v x a b g h k m = record {
    sound = (
      λ q. fits_present_v s x a b ∙ both (leaf_fit s x && expression_fits s a) (expression_fits s b) (both (leaf_fit s x) (expression_fits s a) h k) m,
      λ q. clash i g q,
    );
    tests = untested s i (e.PresentV x a b) (none_presentv x a b);
  }

  pub fine_present_nnv : (x y : Leaf) (a b : Expr) → i ≡ false → leaf_fit s x ≡ true → leaf_fit s y ≡ true → expression_fits s a ≡ true → expression_fits s b ≡ true → Fine s c i (e.PresentNnv x y a b)
  fine_present_nnv x y a b g h n k m = record {
    sound = (
      λ q. fits_present_nnv s x y a b
          ∙ both (leaf_fit s x && leaf_fit s y && expression_fits s a) (expression_fits s b)
          (both (leaf_fit s x && leaf_fit s y) (expression_fits s a) (both (leaf_fit s x) (leaf_fit s y) h n) k) m,
      λ q. clash i g q,
    );
    tests = untested s i (e.PresentNnv x y a b) (none_presentnnv x y a b);
  }
