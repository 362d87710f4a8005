-- The tests of the members of AND and OR, one after another, and what is of no form of a test.
use Rattle.std.proofs.Common.{◌≡◌, Bool, List, [], ◌∷◌, ◌++◌, Option, Some, None, refl, sym, ap, subst, ◌∙◌}
use Rattle.std.specs.Option.{option_and_then, option_map}
use Rattle.mq_values.specs.declared.operators.CmpOp.{CmpOp}
use Rattle.mq_ir.specs.declared.expression.BoundArm.{BoundArm}
use Rattle.mq_ir.specs.declared.expression.BoundProd.{BoundProd}
use Rattle.mq_ir.specs.declared.expression.BoundSum.{BoundSum}
use Rattle.mq_ir.specs.declared.expression.Expr.{Expr, out-Expr, roll-Expr, roll-out-Expr}
use Rattle.mq_ir.specs.declared.expression.Expr.TheOpen as layer
use Rattle.mq_ir.specs.declared.expression.Expr.TheVariants as e
use Rattle.mq_ir.specs.declared.expression.Leaf.{Leaf}
use Rattle.mq_ir.specs.declared.expression.Test.{Test}
use Rattle.mq_bind_expr.specs.PlaceLaws.{test_roll, tests_all, with_test}
use Rattle.mq_bind_expr.specs.PlaceTests.{test_of}

first_test : (o : Option Test) → option_and_then (λ t. option_map (λ (ts : List Test). t ∷ ts) (Some [])) o ≡ with_test (Some []) o
first_test None = refl
first_test (Some t) = refl

moved_test : (o : Option Test) (q : Option (List Test)) (p : Option Test) →
    option_and_then (λ t. option_map (λ ts. t ∷ ts) (with_test q p)) o ≡ with_test (option_and_then (λ t. option_map (λ ts. t ∷ ts) q) o) p
moved_test None q p = refl
moved_test (Some t) None p = refl
moved_test (Some t) (Some ts) None = refl
moved_test (Some t) (Some ts) (Some u) = refl

pub tests_more : (xs : List Expr) (x : Expr) → tests_all (xs ++ x ∷ []) ≡ with_test (tests_all xs) (test_of x)
tests_more [] x = first_test (test_of x)
tests_more (y ∷ ys) x =
    ap (λ r. option_and_then (λ t. option_map (λ ts. t ∷ ts) r) (test_of y)) (tests_more ys x) ∙ moved_test (test_of y) (tests_all ys) (test_of x)

-- an expression that is of no form of a test
pub record Formless (x : Expr) : Type 0 where
  pub no_or : (xs : List Expr) → x ≡ e.Or xs → ⊥
  pub no_and : (xs : List Expr) → x ≡ e.And xs → ⊥
  pub no_not : (y : Expr) → x ≡ e.Not y → ⊥
  pub no_cmp : (y : Expr) (op : CmpOp) (z : Expr) → x ≡ e.Cmp y op z → ⊥
  pub no_between : (y : Expr) (negated : Bool) (low high : Expr) → x ≡ e.Between y negated low high → ⊥
  pub no_in : (y : Expr) (negated : Bool) (xs : List Expr) → x ≡ e.InList y negated xs → ⊥
  pub no_null : (y : Expr) (negated : Bool) → x ≡ e.IsNull y negated → ⊥

formless_layer : (x : layer.Expr-F Expr Leaf Test BoundArm BoundProd BoundSum) → Formless (roll-Expr x) → test_of (roll-Expr x) ≡ None
formless_layer (layer.«Expr::Or» xs) f = absurd (f.no_or xs (e.rolls-Or xs))
formless_layer (layer.«Expr::And» xs) f = absurd (f.no_and xs (e.rolls-And xs))
formless_layer (layer.«Expr::Not» y) f = absurd (f.no_not y (e.rolls-Not y))
formless_layer (layer.«Expr::Cmp» y op z) f = absurd (f.no_cmp y op z (e.rolls-Cmp y op z))
formless_layer (layer.«Expr::Between» y negated low high) f = absurd (f.no_between y negated low high (e.rolls-Between y negated low high))
formless_layer (layer.InList y negated xs) f = absurd (f.no_in y negated xs (e.rolls-InList y negated xs))
formless_layer (layer.IsNull y negated) f = absurd (f.no_null y negated (e.rolls-IsNull y negated))
formless_layer (layer.IsPresent l negated) f = test_roll (layer.IsPresent l negated)
formless_layer (layer.Sum y ts) f = test_roll (layer.Sum y ts)
formless_layer (layer.Prod y ts) f = test_roll (layer.Prod y ts)
formless_layer (layer.Neg y) f = test_roll (layer.Neg y)
formless_layer (layer.Lit v) f = test_roll (layer.Lit v)
formless_layer (layer.Leaf l) f = test_roll (layer.Leaf l)
formless_layer (layer.Case of arms or_else) f = test_roll (layer.Case of arms or_else)
formless_layer (layer.Cast y k) f = test_roll (layer.Cast y k)
formless_layer (layer.Convert y k) f = test_roll (layer.Convert y k)
formless_layer (layer.Call g xs) f = test_roll (layer.Call g xs)
formless_layer (layer.PresentV l y z) f = test_roll (layer.PresentV l y z)
formless_layer (layer.PresentNnv l n y z) f = test_roll (layer.PresentNnv l n y z)

pub formless : (x : Expr) → Formless x → test_of x ≡ None
formless x f = ap test_of (sym (roll-out-Expr x)) ∙ formless_layer (out-Expr x) (subst Formless (sym (roll-out-Expr x)) f)
