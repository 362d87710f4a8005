-- Where a bound condition names the dimension under test, for the parts of an expression.
use Rattle.std.specs.Prelude.{◌≡◌, Bool, false, ◌||◌, Option}
use Rattle.std.specs.Option.{option_map_or}
use Rattle.std.proofs.Common.{sym, ap, ◌∙◌}
use Rattle.mq_ir.specs.declared.expression.BoundArm.{BoundArm, para-BoundArm, para-roll-BoundArm, rolls-BoundArm'}
use Rattle.mq_ir.specs.declared.expression.BoundProd.{BoundProd, para-BoundProd, para-roll-BoundProd, rolls-BoundProd'}
use Rattle.mq_ir.specs.declared.expression.BoundSum.{BoundSum, para-BoundSum, para-roll-BoundSum, rolls-BoundSum'}
use Rattle.mq_ir.specs.declared.expression.Expr.{Expr, map-Expr, para-roll-Expr, roll-Expr}
use Rattle.mq_ir.specs.declared.expression.Expr.TheOpen as layer
use Rattle.mq_ir.specs.declared.expression.Expr.TheVariants as e
use Rattle.mq_ir.specs.declared.expression.Leaf.{Leaf}
use Rattle.mq_ir.specs.declared.expression.Test.{Test}
use Rattle.mq_bind_expr.specs.Dimensions.{layer_names, names_dimension}

unfoldable pub arm_names : BoundArm → Bool
arm_names = para-BoundArm Bool (Unit {0}) (Unit {0}) Bool Bool Bool
    layer_names (λ _. tt) (λ _. tt) (λ arm. arm.test.1 || arm.value.1) (λ term. term.e.1) (λ term. term.e.1)

unfoldable pub prod_names : BoundProd → Bool
prod_names = para-BoundProd Bool (Unit {0}) (Unit {0}) Bool Bool Bool
    layer_names (λ _. tt) (λ _. tt) (λ arm. arm.test.1 || arm.value.1) (λ term. term.e.1) (λ term. term.e.1)

unfoldable pub sum_names : BoundSum → Bool
sum_names = para-BoundSum Bool (Unit {0}) (Unit {0}) Bool Bool Bool
    layer_names (λ _. tt) (λ _. tt) (λ arm. arm.test.1 || arm.value.1) (λ term. term.e.1) (λ term. term.e.1)

abbrev pub with_names :
    layer.Expr-F Expr Leaf Test BoundArm BoundProd BoundSum →
    layer.Expr-F (Expr × Bool) (Leaf × Unit {0}) (Test × Unit {0}) (BoundArm × Bool) (BoundProd × Bool) (BoundSum × Bool)
with_names =
    map-Expr Expr Leaf Test BoundArm BoundProd BoundSum
    (Expr × Bool) (Leaf × Unit {0}) (Test × Unit {0}) (BoundArm × Bool) (BoundProd × Bool) (BoundSum × Bool)
    (λ x. (x, names_dimension x)) (λ l. (l, tt)) (λ t. (t, tt)) (λ a. (a, arm_names a)) (λ a. (a, prod_names a)) (λ a. (a, sum_names a))

pub names_roll : (x : layer.Expr-F Expr Leaf Test BoundArm BoundProd BoundSum) → names_dimension (roll-Expr x) ≡ layer_names (with_names x)
unfolding names_dimension arm_names prod_names sum_names
names_roll x = para-roll-Expr Bool (Unit {0}) (Unit {0}) Bool Bool Bool
    layer_names (λ _. tt) (λ _. tt) (λ arm. arm.test.1 || arm.value.1) (λ term. term.e.1) (λ term. term.e.1) x

abbrev pub sum_term_names : BoundSum → Bool
sum_term_names t = names_dimension t.e

abbrev pub prod_term_names : BoundProd → Bool
prod_term_names t = names_dimension t.e

abbrev pub case_arm_names : BoundArm → Bool
case_arm_names a = names_dimension a.test || names_dimension a.value

abbrev pub names_where_any : Option Expr → Bool
names_where_any x = option_map_or names_dimension x false

pub sum_is : (t : BoundSum) → sum_names t ≡ sum_term_names t
unfolding names_dimension sum_names
sum_is t =
    ap sum_names (sym (rolls-BoundSum' (record { op = t.op; e = t.e })))
    ∙ para-roll-BoundSum Bool (Unit {0}) (Unit {0}) Bool Bool Bool
    layer_names (λ _. tt) (λ _. tt) (λ arm. arm.test.1 || arm.value.1) (λ term. term.e.1) (λ term. term.e.1) (record { op = t.op; e = t.e })

pub prod_is : (t : BoundProd) → prod_names t ≡ prod_term_names t
unfolding names_dimension prod_names
prod_is t =
    ap prod_names (sym (rolls-BoundProd' (record { op = t.op; e = t.e })))
    ∙ para-roll-BoundProd Bool (Unit {0}) (Unit {0}) Bool Bool Bool
    layer_names (λ _. tt) (λ _. tt) (λ arm. arm.test.1 || arm.value.1) (λ term. term.e.1) (λ term. term.e.1) (record { op = t.op; e = t.e })

pub arm_is : (a : BoundArm) → arm_names a ≡ case_arm_names a
unfolding names_dimension arm_names
arm_is a =
    ap arm_names (sym (rolls-BoundArm' (record { test = a.test; value = a.value }))) ∙ para-roll-BoundArm Bool (Unit {0}) (Unit {0}) Bool Bool Bool
    layer_names (λ _. tt) (λ _. tt) (λ arm. arm.test.1 || arm.value.1) (λ term. term.e.1) (λ term. term.e.1) (record { test = a.test; value = a.value })
