-- What an expression means.
use Rattle.std.specs.Prelude.{List, Ok, Some, map}
use Rattle.std.specs.Option.{option_map}
use Rattle.mq_values.specs.Arithmetic.{negation_of}
use Rattle.mq_values.specs.Convert.{cast_of}
use Rattle.mq_values.specs.DimTests.{is_null}
use Rattle.mq_values.specs.Truth.{opposite, negated_if}
use Rattle.mq_values.specs.declared.operators.ProdOp.{ProdOp}
use Rattle.mq_values.specs.declared.operators.SumOp.{SumOp}
use Rattle.mq_ir.specs.declared.expression.Expr.{Expr, para-Expr}
use Rattle.mq_ir.specs.declared.expression.Expr.TheOpen as layer
use Rattle.mq_ir.specs.declared.expression.Leaf.{Leaf}
use Rattle.mq_ir.specs.declared.expression.Test.{Test}
use Rattle.mq_ir.specs.declared.expression.BoundSum.{BoundSum}
use Rattle.mq_ir.specs.declared.expression.BoundProd.{BoundProd}
use Rattle.mq_ir.specs.declared.expression.BoundArm.{BoundArm}
use Rattle.mq_ir.specs.declared.expression.Worth.TheVariants as worth
use Rattle.mq_ir.specs.Conditions.{conjunction, disjunction, compared_to, between, member, case_of, asked, both_asked, chosen}
use Rattle.mq_ir.specs.Operators.{added, multiplied, chained, of_number, called}
use Rattle.mq_ir.specs.Results.{◌>>=◌}
use Rattle.mq_ir.specs.Worth.{Found, a_value, a_truth, as_value, as_truth}
pub use Rattle.mq_ir.specs.Worth.{Outcome, Verdict, whole, flag}

-- a part of an expression stands beside what it is worth
abbrev pub Part : Type 0
Part = Expr × Found

abbrev pub worths : List Part → List Found
worths = map (λ part. part.1)

-- One layer of an expression, where each part of it stands beside what it is worth.
abbrev pub layer_found : (Leaf → Outcome) → layer.Expr-F Part (Leaf × Unit {0}) (Test × Unit {0}) (BoundArm × (Found × Found)) (BoundProd × (ProdOp × Found)) (BoundSum × (SumOp × Found)) → Found
layer_found leaves (layer.«Expr::Or» xs) = a_truth (disjunction (worths xs))
layer_found leaves (layer.«Expr::And» xs) = a_truth (conjunction (worths xs))
layer_found leaves (layer.«Expr::Not» x) = a_truth (as_truth x.1 >>= (λ t. Ok (opposite t)))
layer_found leaves (layer.«Expr::Cmp» a op b) = as_value a.1 >>= (λ v. compared_to op v b.1)
layer_found leaves (layer.«Expr::Between» x not low high) = a_truth (as_value x.1 >>= (λ v. between v low.1 high.1) >>= (λ t. Ok (negated_if not t)))
layer_found leaves (layer.InList x not xs) = a_truth (as_value x.1 >>= (λ v. member v (worths xs)) >>= (λ t. Ok (negated_if not t)))
layer_found leaves (layer.IsNull x not) = a_truth (as_value x.1 >>= (λ v. Ok (negated_if not (Some (is_null v)))))
layer_found leaves (layer.IsPresent l not) = a_truth (asked (leaves l.0) >>= (λ b. Ok (negated_if not (Some b))))
layer_found leaves (layer.Sum first terms) = a_value (as_value first.1 >>= (λ v. chained added v (map (λ term. term.1) terms)))
layer_found leaves (layer.Prod first terms) = a_value (as_value first.1 >>= (λ v. chained multiplied v (map (λ term. term.1) terms)))
layer_found leaves (layer.Neg x) = a_value (as_value x.1 >>= of_number negation_of)
layer_found leaves (layer.Lit v) = Ok (worth.Value v)
layer_found leaves (layer.Leaf l) = a_value (leaves l.0)
layer_found leaves (layer.Case subject arms otherwise) = a_value (case_of (option_map (λ part. part.1) subject) (map (λ arm. arm.1) arms) (option_map (λ part. part.1) otherwise))
layer_found leaves (layer.Cast x kind) = a_value (as_value x.1 >>= (λ v. cast_of v kind))
layer_found leaves (layer.Convert x kind) = a_value (as_value x.1 >>= (λ v. cast_of v kind))
layer_found leaves (layer.Call f xs) = a_value (called f (worths xs))
layer_found leaves (layer.PresentV present a b) = a_value (chosen (asked (leaves present.0)) (as_value a.1) (as_value b.1))
layer_found leaves (layer.PresentNnv present not_null a b) =
    a_value (chosen (both_asked (leaves present.0) (leaves not_null.0)) (as_value a.1) (as_value b.1))

-- an arm of CASE, and a term of a chain, with what their parts are worth
abbrev pub layer_arm : layer.BoundArm-F Part (Leaf × Unit {0}) (Test × Unit {0}) (BoundArm × (Found × Found)) (BoundProd × (ProdOp × Found)) (BoundSum × (SumOp × Found)) → Found × Found
layer_arm arm = (arm.test.1, arm.value.1)

abbrev pub layer_factor : layer.BoundProd-F Part (Leaf × Unit {0}) (Test × Unit {0}) (BoundArm × (Found × Found)) (BoundProd × (ProdOp × Found)) (BoundSum × (SumOp × Found)) → ProdOp × Found
layer_factor term = (term.op, term.e.1)

abbrev pub layer_term : layer.BoundSum-F Part (Leaf × Unit {0}) (Test × Unit {0}) (BoundArm × (Found × Found)) (BoundProd × (ProdOp × Found)) (BoundSum × (SumOp × Found)) → SumOp × Found
layer_term term = (term.op, term.e.1)

-- What an expression is worth, where `leaves` gives the value of each leaf. ExpressionLaws has it case by case.
unfoldable pub worth_of : (Leaf → Outcome) → Expr → Found
worth_of leaves =
    para-Expr Found (Unit {0}) (Unit {0}) (Found × Found) (ProdOp × Found) (SumOp × Found)
    (layer_found leaves) (λ _. tt) (λ _. tt) layer_arm layer_factor layer_term

-- an expression in the place of a value, and in that of a condition
abbrev pub ev : (Leaf → Outcome) → Expr → Outcome
ev leaves e = as_value (worth_of leaves e)

abbrev pub holds : (Leaf → Outcome) → Expr → Verdict
holds leaves e = as_truth (worth_of leaves e)
