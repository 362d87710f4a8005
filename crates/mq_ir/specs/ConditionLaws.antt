-- What a condition comes to, case by case.
use Rattle.std.specs.Prelude.{◌≡◌, Bool, List, Ok, Some, map}
use Rattle.std.proofs.Common.{sym, ap, ◌∙◌}
use Rattle.mq_values.specs.DimTests.{is_null}
use Rattle.mq_values.specs.Truth.{opposite, negated_if}
use Rattle.mq_values.specs.declared.operators.CmpOp.{CmpOp}
use Rattle.mq_values.specs.declared.operators.ProdOp.{ProdOp}
use Rattle.mq_values.specs.declared.operators.SumOp.{SumOp}
use Rattle.mq_ir.specs.declared.expression.Expr.{Expr, para-roll-Expr}
use Rattle.mq_ir.specs.declared.expression.Expr.TheOpen as layer
use Rattle.mq_ir.specs.declared.expression.Expr.TheVariants as expr
use Rattle.mq_ir.specs.declared.expression.Leaf.{Leaf}
use Rattle.mq_ir.specs.Conditions.{conjunction, disjunction, compared_to, between, member, asked}
use Rattle.mq_ir.specs.Expression.{Outcome, worth_of, ev, holds, layer_found, layer_arm, layer_factor, layer_term}
use Rattle.mq_ir.specs.Results.{◌>>=◌}
use Rattle.mq_ir.specs.Worth.{Found, a_truth}
use Rattle.mq_ir.specs.PartLaws.{seconds}

-- OR
pub worth_or : (leaves : Leaf → Outcome) (xs : List Expr) → worth_of leaves (expr.Or xs) ≡ a_truth (disjunction (map (worth_of leaves) xs))
unfolding worth_of
worth_or leaves xs =
    ap (worth_of leaves) (sym (expr.rolls-Or xs))
    ∙ para-roll-Expr Found (Unit {0}) (Unit {0}) (Found × Found) (ProdOp × Found) (SumOp × Found)
    (layer_found leaves) (λ _. tt) (λ _. tt) layer_arm layer_factor layer_term (layer.«Expr::Or» xs)
    ∙ ap (λ found. a_truth (disjunction found)) (seconds (worth_of leaves) xs)

-- AND
pub worth_and : (leaves : Leaf → Outcome) (xs : List Expr) →
    worth_of leaves (expr.And xs) ≡ a_truth (conjunction (map (worth_of leaves) xs))
unfolding worth_of
worth_and leaves xs =
    ap (worth_of leaves) (sym (expr.rolls-And xs))
    ∙ para-roll-Expr Found (Unit {0}) (Unit {0}) (Found × Found) (ProdOp × Found) (SumOp × Found)
    (layer_found leaves) (λ _. tt) (λ _. tt) layer_arm layer_factor layer_term (layer.«Expr::And» xs)
    ∙ ap (λ found. a_truth (conjunction found)) (seconds (worth_of leaves) xs)

-- NOT
pub worth_not : (leaves : Leaf → Outcome) (x : Expr) → worth_of leaves (expr.Not x) ≡ a_truth (holds leaves x >>= (λ t. Ok (opposite t)))
unfolding worth_of
worth_not leaves x =
    ap (worth_of leaves) (sym (expr.rolls-Not x))
    ∙ para-roll-Expr Found (Unit {0}) (Unit {0}) (Found × Found) (ProdOp × Found) (SumOp × Found)
    (layer_found leaves) (λ _. tt) (λ _. tt) layer_arm layer_factor layer_term (layer.«Expr::Not» x)

-- a comparison: both sides are evaluated
pub worth_cmp : (leaves : Leaf → Outcome) (a : Expr) (op : CmpOp) (b : Expr) →
    worth_of leaves (expr.Cmp a op b) ≡ ev leaves a >>= (λ v. compared_to op v (worth_of leaves b))
unfolding worth_of
worth_cmp leaves a op b =
    ap (worth_of leaves) (sym (expr.rolls-Cmp a op b))
    ∙ para-roll-Expr Found (Unit {0}) (Unit {0}) (Found × Found) (ProdOp × Found) (SumOp × Found)
    (layer_found leaves) (λ _. tt) (λ _. tt) layer_arm layer_factor layer_term (layer.«Expr::Cmp» a op b)

-- BETWEEN
pub worth_between : (leaves : Leaf → Outcome) (x : Expr) (neg : Bool) (low : Expr) (high : Expr) →
    worth_of leaves (expr.Between x neg low high) ≡
    a_truth (ev leaves x >>= (λ v. between v (worth_of leaves low) (worth_of leaves high)) >>= (λ t. Ok (negated_if neg t)))
unfolding worth_of
worth_between leaves x neg low high =
    ap (worth_of leaves) (sym (expr.rolls-Between x neg low high))
    ∙ para-roll-Expr Found (Unit {0}) (Unit {0}) (Found × Found) (ProdOp × Found) (SumOp × Found)
    (layer_found leaves) (λ _. tt) (λ _. tt) layer_arm layer_factor layer_term (layer.«Expr::Between» x neg low high)

-- IN
pub worth_in : (leaves : Leaf → Outcome) (x : Expr) (neg : Bool) (xs : List Expr) →
    worth_of leaves (expr.InList x neg xs) ≡
    a_truth (ev leaves x >>= (λ v. member v (map (worth_of leaves) xs)) >>= (λ t. Ok (negated_if neg t)))
unfolding worth_of
worth_in leaves x neg xs =
    ap (worth_of leaves) (sym (expr.rolls-InList x neg xs))
    ∙ para-roll-Expr Found (Unit {0}) (Unit {0}) (Found × Found) (ProdOp × Found) (SumOp × Found)
    (layer_found leaves) (λ _. tt) (λ _. tt) layer_arm layer_factor layer_term (layer.InList x neg xs)
    ∙ ap (λ found. a_truth (ev leaves x >>= (λ v. member v found) >>= (λ t. Ok (negated_if neg t)))) (seconds (worth_of leaves) xs)

-- IS NULL
pub worth_is_null : (leaves : Leaf → Outcome) (x : Expr) (neg : Bool) →
    worth_of leaves (expr.IsNull x neg) ≡ a_truth (ev leaves x >>= (λ v. Ok (negated_if neg (Some (is_null v)))))
unfolding worth_of
worth_is_null leaves x neg =
    ap (worth_of leaves) (sym (expr.rolls-IsNull x neg))
    ∙ para-roll-Expr Found (Unit {0}) (Unit {0}) (Found × Found) (ProdOp × Found) (SumOp × Found)
    (layer_found leaves) (λ _. tt) (λ _. tt) layer_arm layer_factor layer_term (layer.IsNull x neg)

-- IS PRESENT
pub worth_is_present : (leaves : Leaf → Outcome) (l : Leaf) (neg : Bool) →
    worth_of leaves (expr.IsPresent l neg) ≡ a_truth (asked (leaves l) >>= (λ b. Ok (negated_if neg (Some b))))
unfolding worth_of
worth_is_present leaves l neg =
    ap (worth_of leaves) (sym (expr.rolls-IsPresent l neg))
    ∙ para-roll-Expr Found (Unit {0}) (Unit {0}) (Found × Found) (ProdOp × Found) (SumOp × Found)
    (layer_found leaves) (λ _. tt) (λ _. tt) layer_arm layer_factor layer_term (layer.IsPresent l neg)
