-- What an expression is worth depends on its leaves alone.
use Rattle.std.proofs.Common.{◌≡◌, List, [], ◌∷◌, ◌++◌, map, Ok, Some, None, refl, ap, sym, subst, ◌∙◌}
use Rattle.mq_ir.specs.declared.expression.Expr.{Expr, ind-Expr, map-Expr, roll-Expr}
use Rattle.mq_ir.specs.declared.expression.Expr.TheOpen as layer
use Rattle.mq_ir.specs.declared.expression.Leaf.{Leaf}
use Rattle.mq_ir.specs.declared.expression.Test.{Test}
use Rattle.mq_ir.specs.declared.expression.BoundArm.{BoundArm, roll-BoundArm}
use Rattle.mq_ir.specs.declared.expression.BoundProd.{BoundProd, roll-BoundProd}
use Rattle.mq_ir.specs.declared.expression.BoundSum.{BoundSum, roll-BoundSum}
use Rattle.mq_ir.specs.Expression.{Outcome, layer_found, worth_of}
use Rattle.mq_ir.specs.Conditions.{conjunction, disjunction, compared_to, between, member, case_of, asked, both_asked, chosen}
use Rattle.mq_ir.specs.Looks.{Leaves, all_leaves, layer_leaves, leaves_of}
use Rattle.mq_ir.specs.Operators.{added, multiplied, chained, of_number, called}
use Rattle.mq_ir.specs.Results.{◌>>=◌}
use Rattle.mq_ir.specs.Worth.{a_value, a_truth, as_value, as_truth}
use Rattle.mq_values.specs.Truth.{opposite, negated_if}
use Rattle.mq_values.specs.Convert.{cast_of}
use Rattle.mq_values.specs.Arithmetic.{negation_of}
use Rattle.mq_values.specs.DimTests.{is_null}
use Rattle.mq_ir.specs.WorthRolls.{ExprLayer, arm_leaves, arm_leaves_roll, arm_worth, arm_worth_roll, leaves_roll, prod_leaves, prod_leaves_roll, prod_worth, prod_worth_roll, sum_leaves, sum_leaves_roll, sum_worth, sum_worth_roll, with_leaves, with_worth, worth_roll}

-- the leaves give the same
abbrev pub SameOn : (Leaf → Outcome) → (Leaf → Outcome) → List Leaf → Type 0
SameOn f g [] = Unit {0}
SameOn f g (l ∷ ls) = (f l ≡ g l) × SameOn f g ls

module _ (f g : Leaf → Outcome) where
  same_left : (xs ys : List Leaf) → SameOn f g (xs ++ ys) → SameOn f g xs
  same_left [] ys h = tt
  same_left (x ∷ xs) ys h = (h.0, same_left xs ys h.1)

  same_right : (xs ys : List Leaf) → SameOn f g (xs ++ ys) → SameOn f g ys
  same_right [] ys h = h
  same_right (x ∷ xs) ys h = same_right xs ys h.1

  -- a part with what is to be shown of it
  abbrev Given : {A B : Type 0} → (A → Leaves) → (A → B) → (A → B) → Type 0
  Given {A} leaves wf wg = (a : A) × (SameOn f g (leaves a) → wf a ≡ wg a)

  abbrev beside : {A B : Type 0} → (leaves : A → Leaves) (wf wg : A → B) {C : Type 0} → (A → C) → List (Given leaves wf wg) → List (A × C)
  beside {A} leaves wf wg {C} h es = map (λ (a : A). (a, h a)) (map (λ (e : Given leaves wf wg). e.0) es)

  abbrev results : {A B : Type 0} → List (A × B) → List B
  results {A} {B} ps = map (λ (p : A × B). p.1) ps

  parts_alike : {A B : Type 0} (leaves : A → Leaves) (wf wg : A → B) (es : List (Given leaves wf wg))
      → SameOn f g (all_leaves (beside leaves wf wg leaves es)) → results (beside leaves wf wg wf es) ≡ results (beside leaves wf wg wg es)
  parts_alike leaves wf wg [] h = refl
  parts_alike leaves wf wg (e ∷ es) h =
      λ i. e.1 (same_left (leaves e.0) (all_leaves (beside leaves wf wg leaves es)) h) i
      ∷ parts_alike leaves wf wg es (same_right (leaves e.0) (all_leaves (beside leaves wf wg leaves es)) h) i

  abbrev Alike : Expr → Type 0
  Alike e = SameOn f g (leaves_of e) → worth_of f e ≡ worth_of g e

  abbrev ArmAlike : BoundArm → Type 0
  ArmAlike a = SameOn f g (arm_leaves a) → arm_worth f a ≡ arm_worth g a

  abbrev ProdAlike : BoundProd → Type 0
  ProdAlike a = SameOn f g (prod_leaves a) → prod_worth f a ≡ prod_worth g a

  abbrev SumAlike : BoundSum → Type 0
  SumAlike a = SameOn f g (sum_leaves a) → sum_worth f a ≡ sum_worth g a

  abbrev GivenLayer : Type 0
  GivenLayer = layer.Expr-F ((e : Expr) × Alike e) ((l : Leaf) × Unit {0}) ((t : Test) × Unit {0}) ((a : BoundArm) × ArmAlike a) ((a : BoundProd) × ProdAlike a) ((a : BoundSum) × SumAlike a)

  abbrev bare : GivenLayer → ExprLayer
  bare =
      map-Expr ((e : Expr) × Alike e) ((l : Leaf) × Unit {0}) ((t : Test) × Unit {0}) ((a : BoundArm) × ArmAlike a) ((a : BoundProd) × ProdAlike a) ((a : BoundSum) × SumAlike a)
      Expr Leaf Test BoundArm BoundProd BoundSum (λ e. e.0) (λ l. l.0) (λ t. t.0) (λ a. a.0) (λ a. a.0) (λ a. a.0)

  layer_alike : (y : GivenLayer) → SameOn f g (layer_leaves (with_leaves (bare y))) → layer_found f (with_worth f (bare y)) ≡ layer_found g (with_worth g (bare y))
  layer_alike (layer.«Expr::Or» es) h = ap (λ ws. a_truth (disjunction ws)) (parts_alike leaves_of (worth_of f) (worth_of g) es h)
  layer_alike (layer.«Expr::And» es) h = ap (λ ws. a_truth (conjunction ws)) (parts_alike leaves_of (worth_of f) (worth_of g) es h)
  layer_alike (layer.«Expr::Not» e) h = ap (λ w. a_truth (as_truth w >>= (λ t. Ok (opposite t)))) (e.1 h)
  layer_alike (layer.«Expr::Cmp» a op b) h =
      let l = a.1 (same_left (leaves_of a.0) (leaves_of b.0) h) in
      let r = b.1 (same_right (leaves_of a.0) (leaves_of b.0) h) in
      λ i. as_value (l i) >>= (λ v. compared_to op v (r i))
  layer_alike (layer.«Expr::Between» e negated a b) h =
      let x = e.1 (same_left (leaves_of e.0) (leaves_of a.0) (same_left (leaves_of e.0 ++ leaves_of a.0) (leaves_of b.0) h)) in
      let l = a.1 (same_right (leaves_of e.0) (leaves_of a.0) (same_left (leaves_of e.0 ++ leaves_of a.0) (leaves_of b.0) h)) in
      let r = b.1 (same_right (leaves_of e.0 ++ leaves_of a.0) (leaves_of b.0) h) in
      λ i. a_truth (as_value (x i) >>= (λ v. between v (l i) (r i)) >>= (λ t. Ok (negated_if negated t)))
  layer_alike (layer.InList e negated es) h =
      let all = all_leaves (beside leaves_of (worth_of f) (worth_of g) leaves_of es) in
      let x = e.1 (same_left (leaves_of e.0) all h) in
      let xs = parts_alike leaves_of (worth_of f) (worth_of g) es (same_right (leaves_of e.0) all h) in
      λ i. a_truth (as_value (x i) >>= (λ v. member v (xs i)) >>= (λ t. Ok (negated_if negated t)))
  layer_alike (layer.IsNull e negated) h = ap (λ w. a_truth (as_value w >>= (λ v. Ok (negated_if negated (Some (is_null v)))))) (e.1 h)
  layer_alike (layer.IsPresent l negated) h = ap (λ o. a_truth (asked o >>= (λ b. Ok (negated_if negated (Some b))))) h.0
  layer_alike (layer.Sum first terms) h =
      let all = all_leaves (beside sum_leaves (sum_worth f) (sum_worth g) sum_leaves terms) in
      let x = first.1 (same_left (leaves_of first.0) all h) in
      let xs = parts_alike sum_leaves (sum_worth f) (sum_worth g) terms (same_right (leaves_of first.0) all h) in
      λ i. a_value (as_value (x i) >>= (λ v. chained added v (xs i)))
  layer_alike (layer.Prod first terms) h =
      let all = all_leaves (beside prod_leaves (prod_worth f) (prod_worth g) prod_leaves terms) in
      let x = first.1 (same_left (leaves_of first.0) all h) in
      let xs = parts_alike prod_leaves (prod_worth f) (prod_worth g) terms (same_right (leaves_of first.0) all h) in
      λ i. a_value (as_value (x i) >>= (λ v. chained multiplied v (xs i)))
  layer_alike (layer.Neg e) h = ap (λ w. a_value (as_value w >>= of_number negation_of)) (e.1 h)
  layer_alike (layer.Lit v) h = refl
  layer_alike (layer.Leaf l) h = ap a_value h.0
  layer_alike (layer.Case None arms None) h =
      let all = all_leaves (beside arm_leaves (arm_worth f) (arm_worth g) arm_leaves arms) in
      let taken = parts_alike arm_leaves (arm_worth f) (arm_worth g) arms (same_left (all) ([]) h) in
      λ i. a_value (case_of None (taken i) None)
  layer_alike (layer.Case None arms (Some y)) h =
      let all = all_leaves (beside arm_leaves (arm_worth f) (arm_worth g) arm_leaves arms) in
      let taken = parts_alike arm_leaves (arm_worth f) (arm_worth g) arms (same_left (all) (leaves_of y.0) h) in
      let last = y.1 (same_right (all) (leaves_of y.0) h) in
      λ i. a_value (case_of None (taken i) (Some (last i)))
  layer_alike (layer.Case (Some x) arms None) h =
      let all = all_leaves (beside arm_leaves (arm_worth f) (arm_worth g) arm_leaves arms) in
      let subject = x.1 (same_left (leaves_of x.0) all (same_left (leaves_of x.0 ++ all) ([]) h)) in
      let taken = parts_alike arm_leaves (arm_worth f) (arm_worth g) arms (same_right (leaves_of x.0) all (same_left (leaves_of x.0 ++ all) ([]) h)) in
      λ i. a_value (case_of (Some (subject i)) (taken i) None)
  layer_alike (layer.Case (Some x) arms (Some y)) h =
      let all = all_leaves (beside arm_leaves (arm_worth f) (arm_worth g) arm_leaves arms) in
      let subject = x.1 (same_left (leaves_of x.0) all (same_left (leaves_of x.0 ++ all) (leaves_of y.0) h)) in
      let taken = parts_alike arm_leaves (arm_worth f) (arm_worth g) arms (same_right (leaves_of x.0) all (same_left (leaves_of x.0 ++ all) (leaves_of y.0) h)) in
      let last = y.1 (same_right (leaves_of x.0 ++ all) (leaves_of y.0) h) in
      λ i. a_value (case_of (Some (subject i)) (taken i) (Some (last i)))
  layer_alike (layer.Cast e k) h = ap (λ w. a_value (as_value w >>= (λ v. cast_of v k))) (e.1 h)
  layer_alike (layer.Convert e k) h = ap (λ w. a_value (as_value w >>= (λ v. cast_of v k))) (e.1 h)
  layer_alike (layer.Call c es) h = ap (λ ws. a_value (called c ws)) (parts_alike leaves_of (worth_of f) (worth_of g) es h)
  layer_alike (layer.PresentV l a b) h =
      let p = h.0 in
      let x = a.1 (same_left (leaves_of a.0) (leaves_of b.0) h.1) in
      let y = b.1 (same_right (leaves_of a.0) (leaves_of b.0) h.1) in
      λ i. a_value (chosen (asked (p i)) (as_value (x i)) (as_value (y i)))
  layer_alike (layer.PresentNnv l n a b) h =
      let p = h.0 in
      let q = h.1.0 in
      let x = a.1 (same_left (leaves_of a.0) (leaves_of b.0) h.1.1) in
      let y = b.1 (same_right (leaves_of a.0) (leaves_of b.0) h.1.1) in
      λ i. a_value (chosen (both_asked (p i) (q i)) (as_value (x i)) (as_value (y i)))

  expr_step : (y : GivenLayer) → Alike (roll-Expr (bare y))
  expr_step y h = worth_roll f (bare y) ∙ layer_alike y (rw (leaves_roll (bare y)) at h) ∙ sym (worth_roll g (bare y))

  abbrev GivenArm : Type 0
  GivenArm = layer.BoundArm-F ((e : Expr) × Alike e) ((l : Leaf) × Unit {0}) ((t : Test) × Unit {0}) ((a : BoundArm) × ArmAlike a) ((a : BoundProd) × ProdAlike a) ((a : BoundSum) × SumAlike a)

  abbrev GivenProd : Type 0
  GivenProd = layer.BoundProd-F ((e : Expr) × Alike e) ((l : Leaf) × Unit {0}) ((t : Test) × Unit {0}) ((a : BoundArm) × ArmAlike a) ((a : BoundProd) × ProdAlike a) ((a : BoundSum) × SumAlike a)

  abbrev GivenSum : Type 0
  GivenSum = layer.BoundSum-F ((e : Expr) × Alike e) ((l : Leaf) × Unit {0}) ((t : Test) × Unit {0}) ((a : BoundArm) × ArmAlike a) ((a : BoundProd) × ProdAlike a) ((a : BoundSum) × SumAlike a)

  arm_step : (y : GivenArm) → ArmAlike (roll-BoundArm (record { test = y.test.0; value = y.value.0 }))
  arm_step y h =
      let x : layer.BoundArm-F Expr Leaf Test BoundArm BoundProd BoundSum = record { test = y.test.0; value = y.value.0 } in
      let k : SameOn f g (leaves_of y.test.0 ++ leaves_of y.value.0) = rw (arm_leaves_roll x) at h in
      let t = y.test.1 (same_left (leaves_of y.test.0) (leaves_of y.value.0) k) in
      let v = y.value.1 (same_right (leaves_of y.test.0) (leaves_of y.value.0) k) in
      arm_worth_roll f x ∙ (λ i. (t i, v i)) ∙ sym (arm_worth_roll g x)

  prod_step : (y : GivenProd) → ProdAlike (roll-BoundProd (record { op = y.op; e = y.e.0 }))
  prod_step y h =
      let x : layer.BoundProd-F Expr Leaf Test BoundArm BoundProd BoundSum = record { op = y.op; e = y.e.0 } in
      let k : SameOn f g (leaves_of y.e.0) = rw (prod_leaves_roll x) at h in
      prod_worth_roll f x ∙ (λ i. (y.op, y.e.1 k i)) ∙ sym (prod_worth_roll g x)

  sum_step : (y : GivenSum) → SumAlike (roll-BoundSum (record { op = y.op; e = y.e.0 }))
  sum_step y h =
      let x : layer.BoundSum-F Expr Leaf Test BoundArm BoundProd BoundSum = record { op = y.op; e = y.e.0 } in
      let k : SameOn f g (leaves_of y.e.0) = rw (sum_leaves_roll x) at h in
      sum_worth_roll f x ∙ (λ i. (y.op, y.e.1 k i)) ∙ sym (sum_worth_roll g x)

  -- where the leaves of an expression give the same, it is worth the same
  pub worth_alike : (e : Expr) → Alike e
  worth_alike = ind-Expr Alike (λ l. Unit {0}) (λ t. Unit {0}) ArmAlike ProdAlike SumAlike
      (λ x y is. subst (λ z. Alike (roll-Expr z)) is (expr_step y)) (λ x y is. tt) (λ x y is. tt)
      (λ x y is. subst (λ z. ArmAlike (roll-BoundArm z)) is (arm_step y))
      (λ x y is. subst (λ z. ProdAlike (roll-BoundProd z)) is (prod_step y))
      (λ x y is. subst (λ z. SumAlike (roll-BoundSum z)) is (sum_step y))
