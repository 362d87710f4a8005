-- Where an expression fits, case by case.
use Rattle.std.specs.Prelude.{◌≡◌, ℕ, List, [], ◌∷◌, map, length, Bool, true, false, ◌&&◌, ◌==◌, nat_lt, Option, Some, None, slice_index_or, refl}
use Rattle.std.specs.List.{list_all}
use Rattle.std.specs.Option.{option_map_or}
use Rattle.std.proofs.Common.{sym, ap, ◌∙◌}
use Rattle.std.proofs.lemmas.List.{length-map}
use Rattle.mq_values.specs.declared.operators.Agg.{Agg}
use Rattle.mq_values.specs.declared.operators.CmpOp.{CmpOp}
use Rattle.mq_values.specs.declared.operators.Func.{Func}
use Rattle.mq_values.specs.declared.value.Kind.{Kind}
use Rattle.mq_values.specs.declared.value.Value.{Value}
use Rattle.mq_ir.specs.declared.expression.BoundArm.{BoundArm, para-BoundArm, para-roll-BoundArm, rolls-BoundArm'}
use Rattle.mq_ir.specs.declared.expression.BoundProd.{BoundProd, para-BoundProd, para-roll-BoundProd, rolls-BoundProd'}
use Rattle.mq_ir.specs.declared.expression.BoundSum.{BoundSum, para-BoundSum, para-roll-BoundSum, rolls-BoundSum'}
use Rattle.mq_ir.specs.declared.expression.Expr.{Expr, map-Expr, para-roll-Expr, roll-Expr}
use Rattle.mq_ir.specs.declared.expression.Expr.TheOpen as layer
use Rattle.mq_ir.specs.declared.expression.Expr.TheVariants as e
use Rattle.mq_ir.specs.declared.expression.Leaf.{Leaf, map-Leaf, out-roll-Leaf, para-Leaf, para-roll-Leaf, roll-Leaf}
use Rattle.mq_ir.specs.declared.expression.Leaf.TheVariants as l
use Rattle.mq_ir.specs.declared.expression.Test.{Test, map-Test, para-roll-Test, roll-Test}
use Rattle.mq_ir.specs.declared.expression.Test.TheVariants as t
use Rattle.mq_ir.specs.FitsExpression.{ExprLayer, LeafLayer, Scope, TestLayer, all_fit, call_fits, expression_fits, fit_inside, fits_inside, is_inner, kind_fits, layer_fits, leaf_fits, test_fits, test_layer_fits}
use Rattle.mq_ir.specs.Looks.{leaves_of}

-- the same of the other trees of an expression
unfoldable pub leaf_fit : Scope → Leaf → Bool
leaf_fit s =
    para-Leaf Bool Bool Bool Bool Bool Bool
    layer_fits (leaf_fits s) test_layer_fits (λ arm. arm.test.1 && arm.value.1) (λ term. term.e.1) (λ term. term.e.1)

unfoldable pub arm_fit : Scope → BoundArm → Bool
arm_fit s =
    para-BoundArm Bool Bool Bool Bool Bool Bool
    layer_fits (leaf_fits s) test_layer_fits (λ arm. arm.test.1 && arm.value.1) (λ term. term.e.1) (λ term. term.e.1)

unfoldable pub prod_fit : Scope → BoundProd → Bool
prod_fit s =
    para-BoundProd Bool Bool Bool Bool Bool Bool
    layer_fits (leaf_fits s) test_layer_fits (λ arm. arm.test.1 && arm.value.1) (λ term. term.e.1) (λ term. term.e.1)

unfoldable pub sum_fit : Scope → BoundSum → Bool
sum_fit s =
    para-BoundSum Bool Bool Bool Bool Bool Bool
    layer_fits (leaf_fits s) test_layer_fits (λ arm. arm.test.1 && arm.value.1) (λ term. term.e.1) (λ term. term.e.1)

abbrev pub with_fits : Scope → layer.Expr-F Expr Leaf Test BoundArm BoundProd BoundSum → ExprLayer
with_fits s =
    map-Expr Expr Leaf Test BoundArm BoundProd BoundSum
    (Expr × Bool) (Leaf × Bool) (Test × Bool) (BoundArm × Bool) (BoundProd × Bool) (BoundSum × Bool)
    (λ x. (x, expression_fits s x)) (λ x. (x, leaf_fit s x)) (λ x. (x, test_fits s x)) (λ x. (x, arm_fit s x)) (λ x. (x, prod_fit s x)) (λ x. (x, sum_fit s x))

abbrev pub leaf_with_fits : Scope → layer.Leaf-F Expr Leaf Test BoundArm BoundProd BoundSum → LeafLayer
leaf_with_fits s =
    map-Leaf Expr Leaf Test BoundArm BoundProd BoundSum
    (Expr × Bool) (Leaf × Bool) (Test × Bool) (BoundArm × Bool) (BoundProd × Bool) (BoundSum × Bool)
    (λ x. (x, expression_fits s x)) (λ x. (x, leaf_fit s x)) (λ x. (x, test_fits s x)) (λ x. (x, arm_fit s x)) (λ x. (x, prod_fit s x)) (λ x. (x, sum_fit s x))

abbrev test_with_fits : Scope → layer.Test-F Expr Leaf Test BoundArm BoundProd BoundSum → TestLayer
test_with_fits s =
    map-Test Expr Leaf Test BoundArm BoundProd BoundSum
    (Expr × Bool) (Leaf × Bool) (Test × Bool) (BoundArm × Bool) (BoundProd × Bool) (BoundSum × Bool)
    (λ x. (x, expression_fits s x)) (λ x. (x, leaf_fit s x)) (λ x. (x, test_fits s x)) (λ x. (x, arm_fit s x)) (λ x. (x, prod_fit s x)) (λ x. (x, sum_fit s x))

pub fits_roll : (s : Scope) (x : layer.Expr-F Expr Leaf Test BoundArm BoundProd BoundSum) → expression_fits s (roll-Expr x) ≡ layer_fits (with_fits s x)
unfolding expression_fits leaf_fit test_fits arm_fit prod_fit sum_fit
fits_roll s x =
    para-roll-Expr Bool Bool Bool Bool Bool Bool
    layer_fits (leaf_fits s) test_layer_fits (λ arm. arm.test.1 && arm.value.1) (λ term. term.e.1) (λ term. term.e.1) x

pub leaf_roll : (s : Scope) (x : layer.Leaf-F Expr Leaf Test BoundArm BoundProd BoundSum) → leaf_fit s (roll-Leaf x) ≡ leaf_fits s (leaf_with_fits s x)
unfolding expression_fits leaf_fit test_fits arm_fit prod_fit sum_fit
leaf_roll s x =
    para-roll-Leaf Bool Bool Bool Bool Bool Bool
    layer_fits (leaf_fits s) test_layer_fits (λ arm. arm.test.1 && arm.value.1) (λ term. term.e.1) (λ term. term.e.1) x

test_roll : (s : Scope) (x : layer.Test-F Expr Leaf Test BoundArm BoundProd BoundSum) → test_fits s (roll-Test x) ≡ test_layer_fits (test_with_fits s x)
unfolding expression_fits leaf_fit test_fits arm_fit prod_fit sum_fit
test_roll s x =
    para-roll-Test Bool Bool Bool Bool Bool Bool
    layer_fits (leaf_fits s) test_layer_fits (λ arm. arm.test.1 && arm.value.1) (λ term. term.e.1) (λ term. term.e.1) x

-- terms and arms
abbrev pub sum_term_fits : Scope → BoundSum → Bool
sum_term_fits s x = expression_fits s x.e

abbrev pub prod_term_fits : Scope → BoundProd → Bool
prod_term_fits s x = expression_fits s x.e

abbrev pub case_arm_fits : Scope → BoundArm → Bool
case_arm_fits s x = expression_fits s x.test && expression_fits s x.value

sum_is : (s : Scope) (x : BoundSum) → sum_fit s x ≡ sum_term_fits s x
unfolding expression_fits sum_fit
sum_is s x =
    ap (sum_fit s) (sym (rolls-BoundSum' (record { op = x.op; e = x.e })))
    ∙ para-roll-BoundSum Bool Bool Bool Bool Bool Bool
    layer_fits (leaf_fits s) test_layer_fits (λ arm. arm.test.1 && arm.value.1) (λ term. term.e.1) (λ term. term.e.1) (record { op = x.op; e = x.e })

prod_is : (s : Scope) (x : BoundProd) → prod_fit s x ≡ prod_term_fits s x
unfolding expression_fits prod_fit
prod_is s x =
    ap (prod_fit s) (sym (rolls-BoundProd' (record { op = x.op; e = x.e })))
    ∙ para-roll-BoundProd Bool Bool Bool Bool Bool Bool
    layer_fits (leaf_fits s) test_layer_fits (λ arm. arm.test.1 && arm.value.1) (λ term. term.e.1) (λ term. term.e.1) (record { op = x.op; e = x.e })

arm_is : (s : Scope) (x : BoundArm) → arm_fit s x ≡ case_arm_fits s x
unfolding expression_fits arm_fit
arm_is s x =
    ap (arm_fit s) (sym (rolls-BoundArm' (record { test = x.test; value = x.value })))
    ∙ para-roll-BoundArm Bool Bool Bool Bool Bool Bool
    layer_fits (leaf_fits s) test_layer_fits (λ arm. arm.test.1 && arm.value.1) (λ term. term.e.1) (λ term. term.e.1) (record { test = x.test; value = x.value })

parts_fit : {A : Type 0} (f : A → Bool) (xs : List A) → all_fit (map (λ (x : A). (x, f x)) xs) ≡ list_all f xs
parts_fit f [] = refl
parts_fit f (x ∷ xs) = ap (λ b. f x && b) (parts_fit f xs)

alike : {A : Type 0} (f g : A → Bool) → ((x : A) → f x ≡ g x) → (xs : List A) → list_all f xs ≡ list_all g xs
alike f g h [] = refl
alike f g h (x ∷ xs) = λ i. h x i && alike f g h xs i

pub fits_or : (s : Scope) (es : List Expr) → expression_fits s (e.Or es) ≡ list_all (expression_fits s) es
fits_or s es = ap (expression_fits s) (sym (e.rolls-Or es)) ∙ fits_roll s (layer.«Expr::Or» es) ∙ parts_fit (expression_fits s) es

pub fits_and : (s : Scope) (es : List Expr) → expression_fits s (e.And es) ≡ list_all (expression_fits s) es
fits_and s es = ap (expression_fits s) (sym (e.rolls-And es)) ∙ fits_roll s (layer.«Expr::And» es) ∙ parts_fit (expression_fits s) es

pub fits_not : (s : Scope) (a : Expr) → expression_fits s (e.Not a) ≡ expression_fits s a
fits_not s a = ap (expression_fits s) (sym (e.rolls-Not a)) ∙ fits_roll s (layer.«Expr::Not» a)

pub fits_cmp : (s : Scope) (a : Expr) (op : CmpOp) (b : Expr) → expression_fits s (e.Cmp a op b) ≡ (expression_fits s a && expression_fits s b)
fits_cmp s a op b = ap (expression_fits s) (sym (e.rolls-Cmp a op b)) ∙ fits_roll s (layer.«Expr::Cmp» a op b)

pub fits_between : (s : Scope) (a : Expr) (negated : Bool) (b c : Expr) → expression_fits s (e.Between a negated b c) ≡ (expression_fits s a && expression_fits s b && expression_fits s c)
fits_between s a negated b c = ap (expression_fits s) (sym (e.rolls-Between a negated b c)) ∙ fits_roll s (layer.«Expr::Between» a negated b c)

pub fits_in : (s : Scope) (a : Expr) (negated : Bool) (es : List Expr) → expression_fits s (e.InList a negated es) ≡ (expression_fits s a && list_all (expression_fits s) es)
fits_in s a negated es =
    ap (expression_fits s) (sym (e.rolls-InList a negated es)) ∙ fits_roll s (layer.InList a negated es) ∙ ap (λ b. expression_fits s a && b) (parts_fit (expression_fits s) es)

pub fits_is_null : (s : Scope) (a : Expr) (negated : Bool) → expression_fits s (e.IsNull a negated) ≡ expression_fits s a
fits_is_null s a negated = ap (expression_fits s) (sym (e.rolls-IsNull a negated)) ∙ fits_roll s (layer.IsNull a negated)

pub fits_is_present : (s : Scope) (x : Leaf) (negated : Bool) → expression_fits s (e.IsPresent x negated) ≡ leaf_fit s x
fits_is_present s x negated = ap (expression_fits s) (sym (e.rolls-IsPresent x negated)) ∙ fits_roll s (layer.IsPresent x negated)

pub fits_sum : (s : Scope) (a : Expr) (ts : List BoundSum) → expression_fits s (e.Sum a ts) ≡ (expression_fits s a && list_all (sum_term_fits s) ts)
fits_sum s a ts =
    ap (expression_fits s) (sym (e.rolls-Sum a ts)) ∙ fits_roll s (layer.Sum a ts)
    ∙ ap (λ b. expression_fits s a && b) (parts_fit (sum_fit s) ts ∙ alike (sum_fit s) (sum_term_fits s) (sum_is s) ts)

pub fits_prod : (s : Scope) (a : Expr) (ts : List BoundProd) → expression_fits s (e.Prod a ts) ≡ (expression_fits s a && list_all (prod_term_fits s) ts)
fits_prod s a ts =
    ap (expression_fits s) (sym (e.rolls-Prod a ts)) ∙ fits_roll s (layer.Prod a ts)
    ∙ ap (λ b. expression_fits s a && b) (parts_fit (prod_fit s) ts ∙ alike (prod_fit s) (prod_term_fits s) (prod_is s) ts)

pub fits_neg : (s : Scope) (a : Expr) → expression_fits s (e.Neg a) ≡ expression_fits s a
fits_neg s a = ap (expression_fits s) (sym (e.rolls-Neg a)) ∙ fits_roll s (layer.Neg a)

pub fits_lit : (s : Scope) (v : Value) → expression_fits s (e.Lit v) ≡ true
fits_lit s v = ap (expression_fits s) (sym (e.rolls-Lit v)) ∙ fits_roll s (layer.Lit v)

pub fits_leaf : (s : Scope) (x : Leaf) → expression_fits s (e.Leaf x) ≡ leaf_fit s x
fits_leaf s x = ap (expression_fits s) (sym (e.rolls-Leaf x)) ∙ fits_roll s (layer.Leaf x)

pub fits_cast : (s : Scope) (a : Expr) (k : Kind) → expression_fits s (e.Cast a k) ≡ (expression_fits s a && kind_fits k)
fits_cast s a k = ap (expression_fits s) (sym (e.rolls-Cast a k)) ∙ fits_roll s (layer.Cast a k)

pub fits_convert : (s : Scope) (a : Expr) (k : Kind) → expression_fits s (e.Convert a k) ≡ (expression_fits s a && kind_fits k)
fits_convert s a k = ap (expression_fits s) (sym (e.rolls-Convert a k)) ∙ fits_roll s (layer.Convert a k)

pub fits_call : (s : Scope) (f : Func) (es : List Expr) → expression_fits s (e.Call f es) ≡ (call_fits f (length es) && list_all (expression_fits s) es)
fits_call s f es =
    ap (expression_fits s) (sym (e.rolls-Call f es)) ∙ fits_roll s (layer.Call f es)
    ∙ (λ i. call_fits f (length-map {B = Expr × Bool} es (λ (x : Expr). (x, expression_fits s x)) i) && parts_fit (expression_fits s) es i)

pub fits_present_v : (s : Scope) (x : Leaf) (a b : Expr) → expression_fits s (e.PresentV x a b) ≡ (leaf_fit s x && expression_fits s a && expression_fits s b)
fits_present_v s x a b = ap (expression_fits s) (sym (e.rolls-PresentV x a b)) ∙ fits_roll s (layer.PresentV x a b)

pub fits_present_nnv : (s : Scope) (x y : Leaf) (a b : Expr) → expression_fits s (e.PresentNnv x y a b) ≡ (leaf_fit s x && leaf_fit s y && expression_fits s a && expression_fits s b)
fits_present_nnv s x y a b = ap (expression_fits s) (sym (e.rolls-PresentNnv x y a b)) ∙ fits_roll s (layer.PresentNnv x y a b)

-- a part of CASE that may be left out
abbrev pub fits_where_any : Scope → Option Expr → Bool
fits_where_any s x = option_map_or (expression_fits s) x true

pub fits_case : (s : Scope) (of : Option Expr) (arms : List BoundArm) (or_else : Option Expr)
    → expression_fits s (e.Case of arms or_else) ≡ (fits_where_any s of && list_all (case_arm_fits s) arms && fits_where_any s or_else)
fits_case s None arms None =
    ap (expression_fits s) (sym (e.rolls-Case None arms None)) ∙ fits_roll s (layer.Case None arms None)
    ∙ ap (λ b. fits_where_any s None && b && fits_where_any s None) (parts_fit (arm_fit s) arms ∙ alike (arm_fit s) (case_arm_fits s) (arm_is s) arms)
fits_case s None arms (Some y) =
    ap (expression_fits s) (sym (e.rolls-Case None arms (Some y))) ∙ fits_roll s (layer.Case None arms (Some y))
    ∙ ap (λ b. fits_where_any s None && b && fits_where_any s (Some y)) (parts_fit (arm_fit s) arms ∙ alike (arm_fit s) (case_arm_fits s) (arm_is s) arms)
fits_case s (Some x) arms None =
    ap (expression_fits s) (sym (e.rolls-Case (Some x) arms None)) ∙ fits_roll s (layer.Case (Some x) arms None)
    ∙ ap (λ b. fits_where_any s (Some x) && b && fits_where_any s None) (parts_fit (arm_fit s) arms ∙ alike (arm_fit s) (case_arm_fits s) (arm_is s) arms)
fits_case s (Some x) arms (Some y) =
    ap (expression_fits s) (sym (e.rolls-Case (Some x) arms (Some y))) ∙ fits_roll s (layer.Case (Some x) arms (Some y))
    ∙ ap (λ b. fits_where_any s (Some x) && b && fits_where_any s (Some y)) (parts_fit (arm_fit s) arms ∙ alike (arm_fit s) (case_arm_fits s) (arm_is s) arms)

-- an expression inside a leaf
abbrev pub flat_fit : Scope → Expr → Bool
flat_fit s x = expression_fits s x && list_all is_inner (leaves_of x)

abbrev pub indices_fit : Scope → ℕ → List Expr → Bool
indices_fit s width es = (length es == width) && list_all (flat_fit s) es

inside_is : (s : Scope) (es : List Expr) → list_all fits_inside (map (λ (x : Expr). (x, expression_fits s x)) es) ≡ list_all (flat_fit s) es
inside_is s [] = refl
inside_is s (x ∷ xs) = ap (λ b. flat_fit s x && b) (inside_is s xs)

indices_are : (s : Scope) (width : ℕ) (es : List Expr) → fit_inside width (map (λ (x : Expr). (x, expression_fits s x)) es) ≡ indices_fit s width es
indices_are s width es = λ i. (length-map {B = Expr × Bool} es (λ (x : Expr). (x, expression_fits s x)) i == width) && inside_is s es i

pub leaf_column : (s : Scope) (item column : ℕ) → leaf_fit s (l.Column item column) ≡ nat_lt column (slice_index_or s.columns item 0)
leaf_column s item column = ap (leaf_fit s) (sym (l.rolls-Column item column)) ∙ leaf_roll s (layer.Column item column)

pub leaf_cell : (s : Scope) (m : ℕ) (es : List Expr) → leaf_fit s (l.Cell m es) ≡ (nat_lt m s.measures && indices_fit s s.dims es)
leaf_cell s m es = ap (leaf_fit s) (sym (l.rolls-Cell m es)) ∙ leaf_roll s (layer.Cell m es) ∙ ap (λ b. nat_lt m s.measures && b) (indices_are s s.dims es)

pub leaf_range : (s : Scope) (f : Agg) (m : ℕ) (ts : List Test) → leaf_fit s (l.Range f m ts) ≡ (nat_lt m s.measures && (length ts == s.dims) && list_all (test_fits s) ts)
leaf_range s f m ts =
    ap (leaf_fit s) (sym (l.rolls-Range f m ts)) ∙ leaf_roll s (layer.Range f m ts)
    ∙ (λ i. nat_lt m s.measures && (length-map {B = Test × Bool} ts (λ (x : Test). (x, test_fits s x)) i == s.dims) && parts_fit (test_fits s) ts i)

pub leaf_ref_cell : (s : Scope) (r m : ℕ) (es : List Expr)
    → leaf_fit s (l.RefCell r m es) ≡ (nat_lt m (slice_index_or s.refs r (0, 0)).1 && indices_fit s (slice_index_or s.refs r (0, 0)).0 es)
leaf_ref_cell s r m es =
    ap (leaf_fit s) (sym (l.rolls-RefCell r m es)) ∙ leaf_roll s (layer.RefCell r m es)
    ∙ ap (λ b. nat_lt m (slice_index_or s.refs r (0, 0)).1 && b) (indices_are s (slice_index_or s.refs r (0, 0)).0 es)

pub leaf_cv : (s : Scope) (d : ℕ) → leaf_fit s (l.Cv d) ≡ nat_lt d s.dims
leaf_cv s d = ap (leaf_fit s) (sym (l.rolls-Cv d)) ∙ leaf_roll s (layer.Cv d)

pub leaf_turn : (s : Scope) → leaf_fit s l.Turn ≡ true
leaf_turn s = ap (leaf_fit s) (sym l.rolls-Turn) ∙ leaf_roll s layer.Turn

pub leaf_present : (s : Scope) (es : List Expr) → leaf_fit s (l.Present es) ≡ (nat_lt 0 s.measures && indices_fit s s.dims es)
leaf_present s es = ap (leaf_fit s) (sym (l.rolls-Present es)) ∙ leaf_roll s (layer.Present es) ∙ ap (λ b. nat_lt 0 s.measures && b) (indices_are s s.dims es)

pub leaf_not_null : (s : Scope) (m : ℕ) (es : List Expr) → leaf_fit s (l.NotNull m es) ≡ (nat_lt m s.measures && indices_fit s s.dims es)
leaf_not_null s m es = ap (leaf_fit s) (sym (l.rolls-NotNull m es)) ∙ leaf_roll s (layer.NotNull m es) ∙ ap (λ b. nat_lt m s.measures && b) (indices_are s s.dims es)

pub leaf_previous : (s : Scope) (m : ℕ) (es : List Expr) → leaf_fit s (l.Previous m es) ≡ (nat_lt m s.measures && indices_fit s s.dims es)
leaf_previous s m es = ap (leaf_fit s) (sym (l.rolls-Previous m es)) ∙ leaf_roll s (layer.Previous m es) ∙ ap (λ b. nat_lt m s.measures && b) (indices_are s s.dims es)

pub leaf_count_all : (s : Scope) (f : Agg) → leaf_fit s (l.GroupAgg f None) ≡ true
leaf_count_all s f = ap (leaf_fit s) (sym (l.rolls-GroupAgg f None)) ∙ leaf_roll s (layer.GroupAgg f None)

pub leaf_group : (s : Scope) (f : Agg) (x : Expr) → leaf_fit s (l.GroupAgg f (Some x)) ≡ flat_fit s x
leaf_group s f x = ap (leaf_fit s) (sym (l.rolls-GroupAgg f (Some x))) ∙ leaf_roll s (layer.GroupAgg f (Some x))

pub any_fits : (s : Scope) → test_fits s t.Any ≡ true
any_fits s = ap (test_fits s) (sym t.rolls-Any) ∙ test_roll s layer.Any

pub null_fits : (s : Scope) → test_fits s t.Null ≡ true
null_fits s = ap (test_fits s) (sym t.rolls-Null) ∙ test_roll s layer.Null

pub at_fits : (s : Scope) (x : Expr) → test_fits s (t.At x) ≡ flat_fit s x
at_fits s x = ap (test_fits s) (sym (t.rolls-At x)) ∙ test_roll s (layer.At x)

pub cmp_fits : (s : Scope) (op : CmpOp) (x : Expr) → test_fits s (t.Cmp op x) ≡ flat_fit s x
cmp_fits s op x = ap (test_fits s) (sym (t.rolls-Cmp op x)) ∙ test_roll s (layer.«Test::Cmp» op x)

pub between_fits : (s : Scope) (x y : Expr) → test_fits s (t.Between x y) ≡ (flat_fit s x && flat_fit s y)
between_fits s x y = ap (test_fits s) (sym (t.rolls-Between x y)) ∙ test_roll s (layer.«Test::Between» x y)

pub in_fits : (s : Scope) (es : List Expr) → test_fits s (t.In es) ≡ list_all (flat_fit s) es
in_fits s es = ap (test_fits s) (sym (t.rolls-In es)) ∙ test_roll s (layer.In es) ∙ inside_is s es

pub not_fits : (s : Scope) (x : Test) → test_fits s (t.Not x) ≡ test_fits s x
not_fits s x = ap (test_fits s) (sym (t.rolls-Not x)) ∙ test_roll s (layer.«Test::Not» x)

pub and_fits : (s : Scope) (ts : List Test) → test_fits s (t.And ts) ≡ list_all (test_fits s) ts
and_fits s ts = ap (test_fits s) (sym (t.rolls-And ts)) ∙ test_roll s (layer.«Test::And» ts) ∙ parts_fit (test_fits s) ts

pub or_fits : (s : Scope) (ts : List Test) → test_fits s (t.Or ts) ≡ list_all (test_fits s) ts
or_fits s ts = ap (test_fits s) (sym (t.rolls-Or ts)) ∙ test_roll s (layer.«Test::Or» ts) ∙ parts_fit (test_fits s) ts

-- what may stand inside a leaf
abbrev pub inner_of : layer.Leaf-F Expr Leaf Test BoundArm BoundProd BoundSum → Bool
inner_of x = elim x [ layer.Column item column ↦ true | layer.Cv d ↦ true | layer.Turn ↦ true | _ ↦ false ]

pub inner_roll : (x : layer.Leaf-F Expr Leaf Test BoundArm BoundProd BoundSum) → is_inner (roll-Leaf x) ≡ inner_of x
inner_roll x = ap inner_of (out-roll-Leaf x)

pub inner_column : (item column : ℕ) → is_inner (l.Column item column) ≡ true
inner_column item column =
    ap is_inner (sym (l.rolls-Column item column)) ∙ inner_roll (layer.Column item column)

pub inner_cv : (d : ℕ) → is_inner (l.Cv d) ≡ true
inner_cv d = ap is_inner (sym (l.rolls-Cv d)) ∙ inner_roll (layer.Cv d)

pub inner_turn : is_inner l.Turn ≡ true
inner_turn = ap is_inner (sym l.rolls-Turn) ∙ inner_roll layer.Turn
