-- The leaves and the worth of an expression at one layer, and of its arms and terms.
use Rattle.std.proofs.Common.{◌≡◌, ◌++◌}
use Rattle.mq_values.specs.declared.operators.ProdOp.{ProdOp}
use Rattle.mq_values.specs.declared.operators.SumOp.{SumOp}
use Rattle.mq_ir.specs.declared.expression.Expr.{Expr, map-Expr, para-roll-Expr, roll-Expr}
use Rattle.mq_ir.specs.declared.expression.Expr.TheOpen as layer
use Rattle.mq_ir.specs.declared.expression.Leaf.{Leaf}
use Rattle.mq_ir.specs.declared.expression.Test.{Test}
use Rattle.mq_ir.specs.declared.expression.BoundArm.{BoundArm, para-BoundArm, para-roll-BoundArm, roll-BoundArm}
use Rattle.mq_ir.specs.declared.expression.BoundProd.{BoundProd, para-BoundProd, para-roll-BoundProd, roll-BoundProd}
use Rattle.mq_ir.specs.declared.expression.BoundSum.{BoundSum, para-BoundSum, para-roll-BoundSum, roll-BoundSum}
use Rattle.mq_ir.specs.Expression.{Outcome, layer_found, worth_of}
use Rattle.mq_ir.specs.Looks.{Leaves, layer_leaves, leaves_of}
use Rattle.mq_ir.specs.Worth.{Found}

abbrev pub arm_leaves : BoundArm → Leaves
arm_leaves =
    para-BoundArm Leaves (Unit {0}) (Unit {0}) Leaves Leaves Leaves
    layer_leaves (λ _. tt) (λ _. tt) (λ arm. arm.test.1 ++ arm.value.1) (λ term. term.e.1) (λ term. term.e.1)

abbrev pub prod_leaves : BoundProd → Leaves
prod_leaves =
    para-BoundProd Leaves (Unit {0}) (Unit {0}) Leaves Leaves Leaves
    layer_leaves (λ _. tt) (λ _. tt) (λ arm. arm.test.1 ++ arm.value.1) (λ term. term.e.1) (λ term. term.e.1)

abbrev pub sum_leaves : BoundSum → Leaves
sum_leaves =
    para-BoundSum Leaves (Unit {0}) (Unit {0}) Leaves Leaves Leaves
    layer_leaves (λ _. tt) (λ _. tt) (λ arm. arm.test.1 ++ arm.value.1) (λ term. term.e.1) (λ term. term.e.1)

abbrev pub arm_worth : (Leaf → Outcome) → BoundArm → Found × Found
arm_worth leaves =
    para-BoundArm Found (Unit {0}) (Unit {0}) (Found × Found) (ProdOp × Found) (SumOp × Found)
    (layer_found leaves) (λ _. tt) (λ _. tt) (λ arm. (arm.test.1, arm.value.1)) (λ term. (term.op, term.e.1)) (λ term. (term.op, term.e.1))

abbrev pub prod_worth : (Leaf → Outcome) → BoundProd → ProdOp × Found
prod_worth leaves =
    para-BoundProd Found (Unit {0}) (Unit {0}) (Found × Found) (ProdOp × Found) (SumOp × Found)
    (layer_found leaves) (λ _. tt) (λ _. tt) (λ arm. (arm.test.1, arm.value.1)) (λ term. (term.op, term.e.1)) (λ term. (term.op, term.e.1))

abbrev pub sum_worth : (Leaf → Outcome) → BoundSum → SumOp × Found
sum_worth leaves =
    para-BoundSum Found (Unit {0}) (Unit {0}) (Found × Found) (ProdOp × Found) (SumOp × Found)
    (layer_found leaves) (λ _. tt) (λ _. tt) (λ arm. (arm.test.1, arm.value.1)) (λ term. (term.op, term.e.1)) (λ term. (term.op, term.e.1))

abbrev pub ExprLayer : Type 0
ExprLayer = layer.Expr-F Expr Leaf Test BoundArm BoundProd BoundSum

abbrev pub with_leaves : ExprLayer → layer.Expr-F (Expr × Leaves) (Leaf × Unit {0}) (Test × Unit {0}) (BoundArm × Leaves) (BoundProd × Leaves) (BoundSum × Leaves)
with_leaves =
    map-Expr Expr Leaf Test BoundArm BoundProd BoundSum (Expr × Leaves) (Leaf × Unit {0}) (Test × Unit {0}) (BoundArm × Leaves) (BoundProd × Leaves) (BoundSum × Leaves)
    (λ e. (e, leaves_of e)) (λ l. (l, tt)) (λ t. (t, tt)) (λ a. (a, arm_leaves a)) (λ a. (a, prod_leaves a)) (λ a. (a, sum_leaves a))

abbrev pub with_worth : (Leaf → Outcome) → ExprLayer → layer.Expr-F (Expr × Found) (Leaf × Unit {0}) (Test × Unit {0}) (BoundArm × (Found × Found)) (BoundProd × (ProdOp × Found)) (BoundSum × (SumOp × Found))
with_worth leaves =
    map-Expr Expr Leaf Test BoundArm BoundProd BoundSum (Expr × Found) (Leaf × Unit {0}) (Test × Unit {0}) (BoundArm × (Found × Found)) (BoundProd × (ProdOp × Found)) (BoundSum × (SumOp × Found))
    (λ e. (e, worth_of leaves e)) (λ l. (l, tt)) (λ t. (t, tt)) (λ a. (a, arm_worth leaves a)) (λ a. (a, prod_worth leaves a)) (λ a. (a, sum_worth leaves a))

pub leaves_roll : (x : ExprLayer) → leaves_of (roll-Expr x) ≡ layer_leaves (with_leaves x)
unfolding leaves_of
leaves_roll x =
    para-roll-Expr Leaves (Unit {0}) (Unit {0}) Leaves Leaves Leaves
    layer_leaves (λ _. tt) (λ _. tt) (λ arm. arm.test.1 ++ arm.value.1) (λ term. term.e.1) (λ term. term.e.1) x

pub worth_roll : (leaves : Leaf → Outcome) (x : ExprLayer) → worth_of leaves (roll-Expr x) ≡ layer_found leaves (with_worth leaves x)
unfolding worth_of
worth_roll leaves x =
    para-roll-Expr Found (Unit {0}) (Unit {0}) (Found × Found) (ProdOp × Found) (SumOp × Found)
    (layer_found leaves) (λ _. tt) (λ _. tt) (λ arm. (arm.test.1, arm.value.1)) (λ term. (term.op, term.e.1)) (λ term. (term.op, term.e.1)) x

pub arm_leaves_roll : (x : layer.BoundArm-F Expr Leaf Test BoundArm BoundProd BoundSum) → arm_leaves (roll-BoundArm x) ≡ leaves_of x.test ++ leaves_of x.value
unfolding leaves_of
arm_leaves_roll x =
    para-roll-BoundArm Leaves (Unit {0}) (Unit {0}) Leaves Leaves Leaves
    layer_leaves (λ _. tt) (λ _. tt) (λ arm. arm.test.1 ++ arm.value.1) (λ term. term.e.1) (λ term. term.e.1) x

pub arm_worth_roll : (leaves : Leaf → Outcome) (x : layer.BoundArm-F Expr Leaf Test BoundArm BoundProd BoundSum) → arm_worth leaves (roll-BoundArm x) ≡ (worth_of leaves x.test, worth_of leaves x.value)
unfolding worth_of
arm_worth_roll leaves x =
    para-roll-BoundArm Found (Unit {0}) (Unit {0}) (Found × Found) (ProdOp × Found) (SumOp × Found)
    (layer_found leaves) (λ _. tt) (λ _. tt) (λ arm. (arm.test.1, arm.value.1)) (λ term. (term.op, term.e.1)) (λ term. (term.op, term.e.1)) x

pub prod_leaves_roll : (x : layer.BoundProd-F Expr Leaf Test BoundArm BoundProd BoundSum) → prod_leaves (roll-BoundProd x) ≡ leaves_of x.e
unfolding leaves_of
prod_leaves_roll x =
    para-roll-BoundProd Leaves (Unit {0}) (Unit {0}) Leaves Leaves Leaves
    layer_leaves (λ _. tt) (λ _. tt) (λ arm. arm.test.1 ++ arm.value.1) (λ term. term.e.1) (λ term. term.e.1) x

pub prod_worth_roll : (leaves : Leaf → Outcome) (x : layer.BoundProd-F Expr Leaf Test BoundArm BoundProd BoundSum) → prod_worth leaves (roll-BoundProd x) ≡ (x.op, worth_of leaves x.e)
unfolding worth_of
prod_worth_roll leaves x =
    para-roll-BoundProd Found (Unit {0}) (Unit {0}) (Found × Found) (ProdOp × Found) (SumOp × Found)
    (layer_found leaves) (λ _. tt) (λ _. tt) (λ arm. (arm.test.1, arm.value.1)) (λ term. (term.op, term.e.1)) (λ term. (term.op, term.e.1)) x

pub sum_leaves_roll : (x : layer.BoundSum-F Expr Leaf Test BoundArm BoundProd BoundSum) → sum_leaves (roll-BoundSum x) ≡ leaves_of x.e
unfolding leaves_of
sum_leaves_roll x =
    para-roll-BoundSum Leaves (Unit {0}) (Unit {0}) Leaves Leaves Leaves
    layer_leaves (λ _. tt) (λ _. tt) (λ arm. arm.test.1 ++ arm.value.1) (λ term. term.e.1) (λ term. term.e.1) x

pub sum_worth_roll : (leaves : Leaf → Outcome) (x : layer.BoundSum-F Expr Leaf Test BoundArm BoundProd BoundSum) → sum_worth leaves (roll-BoundSum x) ≡ (x.op, worth_of leaves x.e)
unfolding worth_of
sum_worth_roll leaves x =
    para-roll-BoundSum Found (Unit {0}) (Unit {0}) (Found × Found) (ProdOp × Found) (SumOp × Found)
    (layer_found leaves) (λ _. tt) (λ _. tt) (λ arm. (arm.test.1, arm.value.1)) (λ term. (term.op, term.e.1)) (λ term. (term.op, term.e.1)) x
