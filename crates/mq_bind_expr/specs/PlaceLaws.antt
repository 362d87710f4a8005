-- The test that a bound condition makes of its dimension, case by case.
use Rattle.std.specs.Prelude.{◌≡◌, List, [], ◌∷◌, ◌++◌, map, Bool, Option, Some, None, refl}
use Rattle.std.specs.Option.{option_and_then, option_map}
use Rattle.std.proofs.Common.{sym, ap, ◌∙◌}
use Rattle.mq_values.specs.declared.operators.CmpOp.{CmpOp}
use Rattle.mq_values.specs.declared.operators.Func.{Func}
use Rattle.mq_values.specs.declared.value.Kind.{Kind}
use Rattle.mq_values.specs.declared.value.Value.{Value}
use Rattle.mq_ir.specs.declared.expression.BoundArm.{BoundArm}
use Rattle.mq_ir.specs.declared.expression.BoundProd.{BoundProd}
use Rattle.mq_ir.specs.declared.expression.BoundSum.{BoundSum}
use Rattle.mq_ir.specs.declared.expression.Expr.{Expr, map-Expr, para-roll-Expr, roll-Expr}
use Rattle.mq_ir.specs.declared.expression.Expr.TheOpen as layer
use Rattle.mq_ir.specs.declared.expression.Expr.TheVariants as e
use Rattle.mq_ir.specs.declared.expression.Leaf.{Leaf}
use Rattle.mq_ir.specs.declared.expression.Test.{Test}
use Rattle.mq_ir.specs.declared.expression.Test.TheVariants as test
use Rattle.mq_bind_expr.specs.PlaceTests.{all_tests, between_test, cmp_test, firsts, in_test, layer_test, null_test, test_of}

abbrev pub with_tests :
    layer.Expr-F Expr Leaf Test BoundArm BoundProd BoundSum →
    layer.Expr-F (Expr × Option Test) (Leaf × Unit {0}) (Test × Unit {0}) (BoundArm × Unit {0}) (BoundProd × Unit {0}) (BoundSum × Unit {0})
with_tests =
    map-Expr Expr Leaf Test BoundArm BoundProd BoundSum
    (Expr × Option Test) (Leaf × Unit {0}) (Test × Unit {0}) (BoundArm × Unit {0}) (BoundProd × Unit {0}) (BoundSum × Unit {0})
    (λ x. (x, test_of x)) (λ l. (l, tt)) (λ t. (t, tt)) (λ a. (a, tt)) (λ a. (a, tt)) (λ a. (a, tt))

pub test_roll : (x : layer.Expr-F Expr Leaf Test BoundArm BoundProd BoundSum) → test_of (roll-Expr x) ≡ layer_test (with_tests x)
unfolding test_of
test_roll x =
    para-roll-Expr (Option Test) (Unit {0}) (Unit {0}) (Unit {0}) (Unit {0}) (Unit {0})
    layer_test (λ _. tt) (λ _. tt) (λ _. tt) (λ _. tt) (λ _. tt) x

-- the tests of all members, where each has one
abbrev pub tests_all : List Expr → Option (List Test)
tests_all [] = Some []
tests_all (x ∷ xs) = option_and_then (λ t. option_map (λ ts. t ∷ ts) (tests_all xs)) (test_of x)

-- one more behind them
abbrev pub with_next : {T : Type 0} → List T → Option T → Option (List T)
with_next ts t = option_map (λ u. ts ++ u ∷ []) t

abbrev pub with_test : {T : Type 0} → Option (List T) → Option T → Option (List T)
with_test tests t = option_and_then (λ ts. with_next ts t) tests

tests_are : (xs : List Expr) → all_tests (map (λ (x : Expr). (x, test_of x)) xs) ≡ tests_all xs
tests_are [] = refl
tests_are (x ∷ xs) = λ i. option_and_then (λ t. option_map (λ ts. t ∷ ts) (tests_are xs i)) (test_of x)

firsts_are : (xs : List Expr) → firsts (map (λ (x : Expr). (x, test_of x)) xs) ≡ xs
firsts_are [] = refl
firsts_are (x ∷ xs) = ap (λ ys. x ∷ ys) (firsts_are xs)

pub test_or : (xs : List Expr) → test_of (e.Or xs) ≡ option_map test.Or (tests_all xs)
test_or xs = ap test_of (sym (e.rolls-Or xs)) ∙ test_roll (layer.«Expr::Or» xs) ∙ ap (option_map test.Or) (tests_are xs)

pub test_and : (xs : List Expr) → test_of (e.And xs) ≡ option_map test.And (tests_all xs)
test_and xs = ap test_of (sym (e.rolls-And xs)) ∙ test_roll (layer.«Expr::And» xs) ∙ ap (option_map test.And) (tests_are xs)

pub test_not : (x : Expr) → test_of (e.Not x) ≡ option_map test.Not (test_of x)
test_not x = ap test_of (sym (e.rolls-Not x)) ∙ test_roll (layer.«Expr::Not» x)

pub test_cmp : (x : Expr) (op : CmpOp) (y : Expr) → test_of (e.Cmp x op y) ≡ cmp_test x op y
test_cmp x op y = ap test_of (sym (e.rolls-Cmp x op y)) ∙ test_roll (layer.«Expr::Cmp» x op y)

pub test_between : (x : Expr) (negated : Bool) (y z : Expr) →
    test_of (e.Between x negated y z) ≡ between_test x negated y z
test_between x negated y z = ap test_of (sym (e.rolls-Between x negated y z)) ∙ test_roll (layer.«Expr::Between» x negated y z)

pub test_in : (x : Expr) (negated : Bool) (xs : List Expr) →
    test_of (e.InList x negated xs) ≡ in_test x negated xs
test_in x negated xs =
    ap test_of (sym (e.rolls-InList x negated xs)) ∙ test_roll (layer.InList x negated xs)
    ∙ ap (in_test x negated) (firsts_are xs)

pub test_is_null : (x : Expr) (negated : Bool) → test_of (e.IsNull x negated) ≡ null_test x negated
test_is_null x negated = ap test_of (sym (e.rolls-IsNull x negated)) ∙ test_roll (layer.IsNull x negated)

-- every other form is none
pub none_is_present : (l : Leaf) (negated : Bool) → test_of (e.IsPresent l negated) ≡ None
none_is_present l negated = ap test_of (sym (e.rolls-IsPresent l negated)) ∙ test_roll (layer.IsPresent l negated)

pub none_sum : (x : Expr) (ts : List BoundSum) → test_of (e.Sum x ts) ≡ None
none_sum x ts = ap test_of (sym (e.rolls-Sum x ts)) ∙ test_roll (layer.Sum x ts)

pub none_prod : (x : Expr) (ts : List BoundProd) → test_of (e.Prod x ts) ≡ None
none_prod x ts = ap test_of (sym (e.rolls-Prod x ts)) ∙ test_roll (layer.Prod x ts)

pub none_neg : (x : Expr) → test_of (e.Neg x) ≡ None
none_neg x = ap test_of (sym (e.rolls-Neg x)) ∙ test_roll (layer.Neg x)

pub none_lit : (v : Value) → test_of (e.Lit v) ≡ None
none_lit v = ap test_of (sym (e.rolls-Lit v)) ∙ test_roll (layer.Lit v)

pub none_leaf : (l : Leaf) → test_of (e.Leaf l) ≡ None
none_leaf l = ap test_of (sym (e.rolls-Leaf l)) ∙ test_roll (layer.Leaf l)

pub none_cast : (x : Expr) (k : Kind) → test_of (e.Cast x k) ≡ None
none_cast x k = ap test_of (sym (e.rolls-Cast x k)) ∙ test_roll (layer.Cast x k)

pub none_convert : (x : Expr) (k : Kind) → test_of (e.Convert x k) ≡ None
none_convert x k = ap test_of (sym (e.rolls-Convert x k)) ∙ test_roll (layer.Convert x k)

pub none_call : (f : Func) (xs : List Expr) → test_of (e.Call f xs) ≡ None
none_call f xs = ap test_of (sym (e.rolls-Call f xs)) ∙ test_roll (layer.Call f xs)

pub none_case : (of : Option Expr) (arms : List BoundArm) (or_else : Option Expr) → test_of (e.Case of arms or_else) ≡ None
none_case of arms or_else = ap test_of (sym (e.rolls-Case of arms or_else)) ∙ test_roll (layer.Case of arms or_else)

pub none_presentv : (l : Leaf) (x y : Expr) → test_of (e.PresentV l x y) ≡ None
none_presentv l x y = ap test_of (sym (e.rolls-PresentV l x y)) ∙ test_roll (layer.PresentV l x y)

pub none_presentnnv : (l n : Leaf) (x y : Expr) → test_of (e.PresentNnv l n x y) ≡ None
none_presentnnv l n x y = ap test_of (sym (e.rolls-PresentNnv l n x y)) ∙ test_roll (layer.PresentNnv l n x y)

pub ruleset test_laws = (test_or, test_and, test_not, test_cmp, test_between, test_in, test_is_null, none_is_present, none_sum, none_prod, none_neg, none_lit, none_leaf, none_cast, none_convert, none_call, none_case, none_presentv, none_presentnnv)
