-- What stands beside the parts of an expression.
use Rattle.std.specs.Prelude.{◌≡◌, List, [], ◌∷◌, map, refl}
use Rattle.std.proofs.Common.{sym, ap, ◌∙◌}
use Rattle.mq_values.specs.declared.operators.ProdOp.{ProdOp}
use Rattle.mq_values.specs.declared.operators.SumOp.{SumOp}
use Rattle.mq_ir.specs.declared.expression.Leaf.{Leaf}
use Rattle.mq_ir.specs.declared.expression.BoundArm.{BoundArm, rolls-BoundArm', para-BoundArm, para-roll-BoundArm}
use Rattle.mq_ir.specs.declared.expression.BoundProd.{BoundProd, rolls-BoundProd', para-BoundProd, para-roll-BoundProd}
use Rattle.mq_ir.specs.declared.expression.BoundSum.{BoundSum, rolls-BoundSum', para-BoundSum, para-roll-BoundSum}
use Rattle.mq_ir.specs.Expression.{Outcome, worth_of, layer_found, layer_arm, layer_factor, layer_term}
use Rattle.mq_ir.specs.Worth.{Found}

-- terms and arms, with what their parts are worth
abbrev pub term_found : (Leaf → Outcome) → BoundSum → SumOp × Found
term_found leaves term = (term.op, worth_of leaves term.e)

abbrev pub factor_found : (Leaf → Outcome) → BoundProd → ProdOp × Found
factor_found leaves term = (term.op, worth_of leaves term.e)

abbrev pub arm_found : (Leaf → Outcome) → BoundArm → Found × Found
arm_found leaves arm = (worth_of leaves arm.test, worth_of leaves arm.value)

-- what stands beside the parts of a list is what is found of each of them
pub seconds : {A B : Type 0} (f : A → B) (xs : List A) → map (λ (x : A × B). x.1) (map (λ x. (x, f x)) xs) ≡ map f xs
seconds f [] = refl
seconds f (x ∷ xs) = ap (λ ys. f x ∷ ys) (seconds f xs)

alike : {A B : Type 0} (f g : A → B) → ((x : A) → f x ≡ g x) → (xs : List A) → map f xs ≡ map g xs
alike f g h [] = refl
alike f g h (x ∷ xs) = λ i. h x i ∷ alike f g h xs i

term_is : (leaves : Leaf → Outcome) (t : BoundSum) → para-BoundSum Found (Unit {0}) (Unit {0}) (Found × Found) (ProdOp × Found) (SumOp × Found)
    (layer_found leaves) (λ _. tt) (λ _. tt) layer_arm layer_factor layer_term t ≡ term_found leaves t
unfolding worth_of
term_is leaves t =
    ap (para-BoundSum Found (Unit {0}) (Unit {0}) (Found × Found) (ProdOp × Found) (SumOp × Found)
    (layer_found leaves) (λ _. tt) (λ _. tt) layer_arm layer_factor layer_term) (sym (rolls-BoundSum' (record { op = t.op; e = t.e })))
    ∙ para-roll-BoundSum Found (Unit {0}) (Unit {0}) (Found × Found) (ProdOp × Found) (SumOp × Found)
    (layer_found leaves) (λ _. tt) (λ _. tt) layer_arm layer_factor layer_term (record { op = t.op; e = t.e })

pub terms_are : (leaves : Leaf → Outcome) (ts : List BoundSum) →
    map (λ (x : BoundSum × (SumOp × Found)). x.1) (map (λ t. (
      t,
      para-BoundSum Found (Unit {0}) (Unit {0}) (Found × Found) (ProdOp × Found) (SumOp × Found)
          (layer_found leaves) (λ _. tt) (λ _. tt) layer_arm layer_factor layer_term t,
    )) ts) ≡ map (term_found leaves) ts
terms_are leaves ts = seconds (para-BoundSum Found (Unit {0}) (Unit {0}) (Found × Found) (ProdOp × Found) (SumOp × Found)
    (layer_found leaves) (λ _. tt) (λ _. tt) layer_arm layer_factor layer_term) ts ∙ alike (para-BoundSum Found (Unit {0}) (Unit {0}) (Found × Found) (ProdOp × Found) (SumOp × Found)
    (layer_found leaves) (λ _. tt) (λ _. tt) layer_arm layer_factor layer_term) (term_found leaves) (term_is leaves) ts

factor_is : (leaves : Leaf → Outcome) (t : BoundProd) → para-BoundProd Found (Unit {0}) (Unit {0}) (Found × Found) (ProdOp × Found) (SumOp × Found)
    (layer_found leaves) (λ _. tt) (λ _. tt) layer_arm layer_factor layer_term t ≡ factor_found leaves t
unfolding worth_of
factor_is leaves t =
    ap (para-BoundProd Found (Unit {0}) (Unit {0}) (Found × Found) (ProdOp × Found) (SumOp × Found)
    (layer_found leaves) (λ _. tt) (λ _. tt) layer_arm layer_factor layer_term) (sym (rolls-BoundProd' (record { op = t.op; e = t.e })))
    ∙ para-roll-BoundProd Found (Unit {0}) (Unit {0}) (Found × Found) (ProdOp × Found) (SumOp × Found)
    (layer_found leaves) (λ _. tt) (λ _. tt) layer_arm layer_factor layer_term (record { op = t.op; e = t.e })

pub factors_are : (leaves : Leaf → Outcome) (ts : List BoundProd) →
    map (λ (x : BoundProd × (ProdOp × Found)). x.1) (map (λ t. (
      t,
      para-BoundProd Found (Unit {0}) (Unit {0}) (Found × Found) (ProdOp × Found) (SumOp × Found)
          (layer_found leaves) (λ _. tt) (λ _. tt) layer_arm layer_factor layer_term t,
    )) ts) ≡ map (factor_found leaves) ts
factors_are leaves ts = seconds (para-BoundProd Found (Unit {0}) (Unit {0}) (Found × Found) (ProdOp × Found) (SumOp × Found)
    (layer_found leaves) (λ _. tt) (λ _. tt) layer_arm layer_factor layer_term) ts ∙ alike (para-BoundProd Found (Unit {0}) (Unit {0}) (Found × Found) (ProdOp × Found) (SumOp × Found)
    (layer_found leaves) (λ _. tt) (λ _. tt) layer_arm layer_factor layer_term) (factor_found leaves) (factor_is leaves) ts

arm_is : (leaves : Leaf → Outcome) (t : BoundArm) → para-BoundArm Found (Unit {0}) (Unit {0}) (Found × Found) (ProdOp × Found) (SumOp × Found)
    (layer_found leaves) (λ _. tt) (λ _. tt) layer_arm layer_factor layer_term t ≡ arm_found leaves t
unfolding worth_of
arm_is leaves t =
    ap (para-BoundArm Found (Unit {0}) (Unit {0}) (Found × Found) (ProdOp × Found) (SumOp × Found)
    (layer_found leaves) (λ _. tt) (λ _. tt) layer_arm layer_factor layer_term) (sym (rolls-BoundArm' (record { test = t.test; value = t.value })))
    ∙ para-roll-BoundArm Found (Unit {0}) (Unit {0}) (Found × Found) (ProdOp × Found) (SumOp × Found)
    (layer_found leaves) (λ _. tt) (λ _. tt) layer_arm layer_factor layer_term (record { test = t.test; value = t.value })

pub arms_are : (leaves : Leaf → Outcome) (ts : List BoundArm) →
    map (λ (x : BoundArm × (Found × Found)). x.1) (map (λ t. (
      t,
      para-BoundArm Found (Unit {0}) (Unit {0}) (Found × Found) (ProdOp × Found) (SumOp × Found)
          (layer_found leaves) (λ _. tt) (λ _. tt) layer_arm layer_factor layer_term t,
    )) ts) ≡ map (arm_found leaves) ts
arms_are leaves ts = seconds (para-BoundArm Found (Unit {0}) (Unit {0}) (Found × Found) (ProdOp × Found) (SumOp × Found)
    (layer_found leaves) (λ _. tt) (λ _. tt) layer_arm layer_factor layer_term) ts ∙ alike (para-BoundArm Found (Unit {0}) (Unit {0}) (Found × Found) (ProdOp × Found) (SumOp × Found)
    (layer_found leaves) (λ _. tt) (λ _. tt) layer_arm layer_factor layer_term) (arm_found leaves) (arm_is leaves) ts
