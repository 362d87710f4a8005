-- What an expression is worth, case by case.
use Rattle.std.specs.Prelude.{◌≡◌, List, Ok, Option, Some, None, map}
use Rattle.std.specs.Option.{option_map}
use Rattle.std.proofs.Common.{sym, ap, ◌∙◌}
use Rattle.mq_values.specs.Arithmetic.{negation_of}
use Rattle.mq_values.specs.Convert.{cast_of}
use Rattle.mq_values.specs.declared.operators.Func.{Func}
use Rattle.mq_values.specs.declared.operators.ProdOp.{ProdOp}
use Rattle.mq_values.specs.declared.operators.SumOp.{SumOp}
use Rattle.mq_values.specs.declared.value.Kind.{Kind}
use Rattle.mq_values.specs.declared.value.Value.{Value}
use Rattle.mq_ir.specs.declared.expression.Expr.{Expr, para-roll-Expr}
use Rattle.mq_ir.specs.declared.expression.Expr.TheOpen as layer
use Rattle.mq_ir.specs.declared.expression.Expr.TheVariants as expr
use Rattle.mq_ir.specs.declared.expression.Leaf.{Leaf}
use Rattle.mq_ir.specs.declared.expression.BoundArm.{BoundArm}
use Rattle.mq_ir.specs.declared.expression.BoundProd.{BoundProd}
use Rattle.mq_ir.specs.declared.expression.BoundSum.{BoundSum}
use Rattle.mq_ir.specs.declared.expression.Worth.TheVariants as worth
use Rattle.mq_ir.specs.Conditions.{case_of, asked, both_asked, chosen}
use Rattle.mq_ir.specs.Expression.{Outcome, worth_of, ev, layer_found, layer_arm, layer_factor, layer_term}
use Rattle.mq_ir.specs.Operators.{added, multiplied, chained, of_number, called}
use Rattle.mq_ir.specs.Results.{◌>>=◌}
use Rattle.mq_ir.specs.Worth.{Found, a_value}
use Rattle.mq_ir.specs.PartLaws.{term_found, factor_found, arm_found, seconds, terms_are, factors_are, arms_are}
use Rattle.mq_ir.specs.ConditionLaws.{worth_or, worth_and, worth_not, worth_cmp, worth_between, worth_in, worth_is_null, worth_is_present}

-- a sum is its first value with the others combined into it, from left to right
pub worth_sum : (leaves : Leaf → Outcome) (first : Expr) (terms : List BoundSum) →
    worth_of leaves (expr.Sum first terms) ≡ a_value (ev leaves first >>= (λ v. chained added v (map (term_found leaves) terms)))
unfolding worth_of
worth_sum leaves first terms =
    ap (worth_of leaves) (sym (expr.rolls-Sum first terms))
    ∙ para-roll-Expr Found (Unit {0}) (Unit {0}) (Found × Found) (ProdOp × Found) (SumOp × Found)
    (layer_found leaves) (λ _. tt) (λ _. tt) layer_arm layer_factor layer_term (layer.Sum first terms)
    ∙ ap (λ found. a_value (ev leaves first >>= (λ v. chained added v found))) (terms_are leaves terms)

-- a product likewise
pub worth_prod : (leaves : Leaf → Outcome) (first : Expr) (terms : List BoundProd) →
    worth_of leaves (expr.Prod first terms) ≡ a_value (ev leaves first >>= (λ v. chained multiplied v (map (factor_found leaves) terms)))
unfolding worth_of
worth_prod leaves first terms =
    ap (worth_of leaves) (sym (expr.rolls-Prod first terms))
    ∙ para-roll-Expr Found (Unit {0}) (Unit {0}) (Found × Found) (ProdOp × Found) (SumOp × Found)
    (layer_found leaves) (λ _. tt) (λ _. tt) layer_arm layer_factor layer_term (layer.Prod first terms)
    ∙ ap (λ found. a_value (ev leaves first >>= (λ v. chained multiplied v found))) (factors_are leaves terms)

-- the sign
pub worth_neg : (leaves : Leaf → Outcome) (x : Expr) → worth_of leaves (expr.Neg x) ≡ a_value (ev leaves x >>= of_number negation_of)
unfolding worth_of
worth_neg leaves x =
    ap (worth_of leaves) (sym (expr.rolls-Neg x))
    ∙ para-roll-Expr Found (Unit {0}) (Unit {0}) (Found × Found) (ProdOp × Found) (SumOp × Found)
    (layer_found leaves) (λ _. tt) (λ _. tt) layer_arm layer_factor layer_term (layer.Neg x)

-- a literal is its value
pub worth_lit : (leaves : Leaf → Outcome) (v : Value) → worth_of leaves (expr.Lit v) ≡ Ok (worth.Value v)
unfolding worth_of
worth_lit leaves v =
    ap (worth_of leaves) (sym (expr.rolls-Lit v))
    ∙ para-roll-Expr Found (Unit {0}) (Unit {0}) (Found × Found) (ProdOp × Found) (SumOp × Found)
    (layer_found leaves) (λ _. tt) (λ _. tt) layer_arm layer_factor layer_term (layer.Lit v)

-- a leaf is what the leaves give
pub worth_leaf : (leaves : Leaf → Outcome) (l : Leaf) → worth_of leaves (expr.Leaf l) ≡ a_value (leaves l)
unfolding worth_of
worth_leaf leaves l =
    ap (worth_of leaves) (sym (expr.rolls-Leaf l))
    ∙ para-roll-Expr Found (Unit {0}) (Unit {0}) (Found × Found) (ProdOp × Found) (SumOp × Found)
    (layer_found leaves) (λ _. tt) (λ _. tt) layer_arm layer_factor layer_term (layer.Leaf l)

-- CASE
pub worth_case : (leaves : Leaf → Outcome) (subject : Option Expr) (arms : List BoundArm) (otherwise : Option Expr) →
    worth_of leaves (expr.Case subject arms otherwise) ≡
    a_value (case_of (option_map (worth_of leaves) subject) (map (arm_found leaves) arms) (option_map (worth_of leaves) otherwise))
unfolding worth_of
worth_case leaves None arms None =
    ap (worth_of leaves) (sym (expr.rolls-Case None arms None))
    ∙ para-roll-Expr Found (Unit {0}) (Unit {0}) (Found × Found) (ProdOp × Found) (SumOp × Found)
    (layer_found leaves) (λ _. tt) (λ _. tt) layer_arm layer_factor layer_term (layer.Case None arms None)
    ∙ ap (λ found. a_value (case_of None found None)) (arms_are leaves arms)
worth_case leaves None arms (Some y) =
    ap (worth_of leaves) (sym (expr.rolls-Case None arms (Some y)))
    ∙ para-roll-Expr Found (Unit {0}) (Unit {0}) (Found × Found) (ProdOp × Found) (SumOp × Found)
    (layer_found leaves) (λ _. tt) (λ _. tt) layer_arm layer_factor layer_term (layer.Case None arms (Some y))
    ∙ ap (λ found. a_value (case_of None found (Some (worth_of leaves y)))) (arms_are leaves arms)
worth_case leaves (Some x) arms None =
    ap (worth_of leaves) (sym (expr.rolls-Case (Some x) arms None))
    ∙ para-roll-Expr Found (Unit {0}) (Unit {0}) (Found × Found) (ProdOp × Found) (SumOp × Found)
    (layer_found leaves) (λ _. tt) (λ _. tt) layer_arm layer_factor layer_term (layer.Case (Some x) arms None)
    ∙ ap (λ found. a_value (case_of (Some (worth_of leaves x)) found None)) (arms_are leaves arms)
worth_case leaves (Some x) arms (Some y) =
    ap (worth_of leaves) (sym (expr.rolls-Case (Some x) arms (Some y)))
    ∙ para-roll-Expr Found (Unit {0}) (Unit {0}) (Found × Found) (ProdOp × Found) (SumOp × Found)
    (layer_found leaves) (λ _. tt) (λ _. tt) layer_arm layer_factor layer_term (layer.Case (Some x) arms (Some y))
    ∙ ap (λ found. a_value (case_of (Some (worth_of leaves x)) found (Some (worth_of leaves y)))) (arms_are leaves arms)

-- CAST
pub worth_cast : (leaves : Leaf → Outcome) (x : Expr) (kind : Kind) →
    worth_of leaves (expr.Cast x kind) ≡ a_value (ev leaves x >>= (λ v. cast_of v kind))
unfolding worth_of
worth_cast leaves x kind =
    ap (worth_of leaves) (sym (expr.rolls-Cast x kind))
    ∙ para-roll-Expr Found (Unit {0}) (Unit {0}) (Found × Found) (ProdOp × Found) (SumOp × Found)
    (layer_found leaves) (λ _. tt) (λ _. tt) layer_arm layer_factor layer_term (layer.Cast x kind)

-- a result that is brought to the kind of the whole
pub worth_convert : (leaves : Leaf → Outcome) (x : Expr) (kind : Kind) →
    worth_of leaves (expr.Convert x kind) ≡ a_value (ev leaves x >>= (λ v. cast_of v kind))
unfolding worth_of
worth_convert leaves x kind =
    ap (worth_of leaves) (sym (expr.rolls-Convert x kind))
    ∙ para-roll-Expr Found (Unit {0}) (Unit {0}) (Found × Found) (ProdOp × Found) (SumOp × Found)
    (layer_found leaves) (λ _. tt) (λ _. tt) layer_arm layer_factor layer_term (layer.Convert x kind)

-- a function
pub worth_call : (leaves : Leaf → Outcome) (f : Func) (xs : List Expr) →
    worth_of leaves (expr.Call f xs) ≡ a_value (called f (map (worth_of leaves) xs))
unfolding worth_of
worth_call leaves f xs =
    ap (worth_of leaves) (sym (expr.rolls-Call f xs))
    ∙ para-roll-Expr Found (Unit {0}) (Unit {0}) (Found × Found) (ProdOp × Found) (SumOp × Found)
    (layer_found leaves) (λ _. tt) (λ _. tt) layer_arm layer_factor layer_term (layer.Call f xs)
    ∙ ap (λ found. a_value (called f found)) (seconds (worth_of leaves) xs)

-- PRESENTV evaluates one of its two results
pub worth_presentv : (leaves : Leaf → Outcome) (present : Leaf) (a : Expr) (b : Expr) →
    worth_of leaves (expr.PresentV present a b) ≡ a_value (chosen (asked (leaves present)) (ev leaves a) (ev leaves b))
unfolding worth_of
worth_presentv leaves present a b =
    ap (worth_of leaves) (sym (expr.rolls-PresentV present a b))
    ∙ para-roll-Expr Found (Unit {0}) (Unit {0}) (Found × Found) (ProdOp × Found) (SumOp × Found)
    (layer_found leaves) (λ _. tt) (λ _. tt) layer_arm layer_factor layer_term (layer.PresentV present a b)

-- PRESENTNNV asks for null only where the cell is present
pub worth_presentnnv : (leaves : Leaf → Outcome) (present : Leaf) (not_null : Leaf) (a : Expr) (b : Expr) →
    worth_of leaves (expr.PresentNnv present not_null a b) ≡
    a_value (chosen (both_asked (leaves present) (leaves not_null)) (ev leaves a) (ev leaves b))
unfolding worth_of
worth_presentnnv leaves present not_null a b =
    ap (worth_of leaves) (sym (expr.rolls-PresentNnv present not_null a b))
    ∙ para-roll-Expr Found (Unit {0}) (Unit {0}) (Found × Found) (ProdOp × Found) (SumOp × Found)
    (layer_found leaves) (λ _. tt) (λ _. tt) layer_arm layer_factor layer_term (layer.PresentNnv present not_null a b)

-- all cases together
pub ruleset worth_laws = (worth_or, worth_and, worth_not, worth_cmp, worth_between, worth_in, worth_is_null, worth_is_present, worth_sum, worth_prod, worth_neg, worth_lit, worth_leaf, worth_case, worth_cast, worth_convert, worth_call, worth_presentv, worth_presentnnv)
