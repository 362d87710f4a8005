-- Whether the parts of an expression have an aggregate.
use Rattle.std.specs.Prelude.{◌≡◌, List, [], ◌∷◌, map, Bool, false, ◌||◌, Option, refl}
use Rattle.std.specs.List.{list_any}
use Rattle.std.specs.Option.{option_map_or}
use Rattle.std.proofs.Common.{sym, ap, ◌∙◌}
use Rattle.mq_ast.specs.declared.expressions.Arm.{Arm, para-Arm, para-roll-Arm, rolls-Arm'}
use Rattle.mq_ast.specs.declared.expressions.E.{E, map-E, para-roll-E, roll-E}
use Rattle.mq_ast.specs.declared.expressions.E.TheOpen as layer
use Rattle.mq_ast.specs.declared.expressions.E.TheVariants as e
use Rattle.mq_ast.specs.declared.expressions.Place.{Place, para-Place, para-roll-Place}
use Rattle.mq_ast.specs.declared.expressions.Place.TheVariants as place
use Rattle.mq_ast.specs.declared.expressions.ProdTerm.{ProdTerm, para-ProdTerm, para-roll-ProdTerm, rolls-ProdTerm'}
use Rattle.mq_ast.specs.declared.expressions.SumTerm.{SumTerm, para-SumTerm, para-roll-SumTerm, rolls-SumTerm'}
use Rattle.mq_bind_expr.specs.Forms.{any_has, has_aggregate, layer_has_aggregate, place_has_aggregate}

unfoldable pub place_has : Place → Bool
place_has = para-Place Bool Bool Bool Bool Bool
    layer_has_aggregate place_has_aggregate (λ arm. arm.test.1 || arm.value.1) (λ term. term.e.1) (λ term. term.e.1)

unfoldable pub arm_has : Arm → Bool
arm_has = para-Arm Bool Bool Bool Bool Bool
    layer_has_aggregate place_has_aggregate (λ arm. arm.test.1 || arm.value.1) (λ term. term.e.1) (λ term. term.e.1)

unfoldable pub prod_has : ProdTerm → Bool
prod_has = para-ProdTerm Bool Bool Bool Bool Bool
    layer_has_aggregate place_has_aggregate (λ arm. arm.test.1 || arm.value.1) (λ term. term.e.1) (λ term. term.e.1)

unfoldable pub sum_has : SumTerm → Bool
sum_has = para-SumTerm Bool Bool Bool Bool Bool
    layer_has_aggregate place_has_aggregate (λ arm. arm.test.1 || arm.value.1) (λ term. term.e.1) (λ term. term.e.1)

abbrev pub with_has : layer.E-F E Place Arm ProdTerm SumTerm → layer.E-F (E × Bool) (Place × Bool) (Arm × Bool) (ProdTerm × Bool) (SumTerm × Bool)
with_has =
    map-E E Place Arm ProdTerm SumTerm (E × Bool) (Place × Bool) (Arm × Bool) (ProdTerm × Bool) (SumTerm × Bool)
    (λ x. (x, has_aggregate x)) (λ p. (p, place_has p)) (λ a. (a, arm_has a)) (λ t. (t, prod_has t)) (λ t. (t, sum_has t))

pub has_roll : (x : layer.E-F E Place Arm ProdTerm SumTerm) → has_aggregate (roll-E x) ≡ layer_has_aggregate (with_has x)
unfolding has_aggregate place_has arm_has prod_has sum_has
has_roll x = para-roll-E Bool Bool Bool Bool Bool
    layer_has_aggregate place_has_aggregate (λ arm. arm.test.1 || arm.value.1) (λ term. term.e.1) (λ term. term.e.1) x

pub place_any_has : place_has place.Any ≡ false
unfolding place_has
place_any_has = ap place_has (sym place.rolls-Any) ∙ para-roll-Place Bool Bool Bool Bool Bool
    layer_has_aggregate place_has_aggregate (λ arm. arm.test.1 || arm.value.1) (λ term. term.e.1) (λ term. term.e.1) layer.Any

pub place_expr_has : (x : E) → place_has (place.Expr x) ≡ has_aggregate x
unfolding has_aggregate place_has
place_expr_has x = ap place_has (sym (place.rolls-Expr x)) ∙ para-roll-Place Bool Bool Bool Bool Bool
    layer_has_aggregate place_has_aggregate (λ arm. arm.test.1 || arm.value.1) (λ term. term.e.1) (λ term. term.e.1) (layer.Expr x)

sum_is : (t : SumTerm) → sum_has t ≡ has_aggregate t.e
unfolding has_aggregate sum_has
sum_is t = ap sum_has (sym (rolls-SumTerm' (record { op = t.op; e = t.e }))) ∙ para-roll-SumTerm Bool Bool Bool Bool Bool
    layer_has_aggregate place_has_aggregate (λ arm. arm.test.1 || arm.value.1) (λ term. term.e.1) (λ term. term.e.1) (record { op = t.op; e = t.e })

prod_is : (t : ProdTerm) → prod_has t ≡ has_aggregate t.e
unfolding has_aggregate prod_has
prod_is t = ap prod_has (sym (rolls-ProdTerm' (record { op = t.op; e = t.e }))) ∙ para-roll-ProdTerm Bool Bool Bool Bool Bool
    layer_has_aggregate place_has_aggregate (λ arm. arm.test.1 || arm.value.1) (λ term. term.e.1) (λ term. term.e.1) (record { op = t.op; e = t.e })

arm_is : (a : Arm) → arm_has a ≡ (has_aggregate a.test || has_aggregate a.value)
unfolding has_aggregate arm_has
arm_is a =
    ap arm_has (sym (rolls-Arm' (record { test = a.test; value = a.value }))) ∙ para-roll-Arm Bool Bool Bool Bool Bool
    layer_has_aggregate place_has_aggregate (λ arm. arm.test.1 || arm.value.1) (λ term. term.e.1) (λ term. term.e.1) (record { test = a.test; value = a.value })

-- lists of parts
pub parts_have : {A : Type 0} (f : A → Bool) (xs : List A) → any_has (map (λ (x : A). (x, f x)) xs) ≡ list_any f xs
parts_have f [] = refl
parts_have f (x ∷ xs) = ap (λ b. f x || b) (parts_have f xs)

pub alike : {A : Type 0} (f g : A → Bool) → ((x : A) → f x ≡ g x) → (xs : List A) → list_any f xs ≡ list_any g xs
alike f g h [] = refl
alike f g h (x ∷ xs) = λ i. h x i || alike f g h xs i

abbrev pub sum_term_has : SumTerm → Bool
sum_term_has t = has_aggregate t.e

abbrev pub prod_term_has : ProdTerm → Bool
prod_term_has t = has_aggregate t.e

abbrev pub case_arm_has : Arm → Bool
case_arm_has a = has_aggregate a.test || has_aggregate a.value

abbrev pub has_where_any : Option E → Bool
has_where_any x = option_map_or has_aggregate x false

pub sums_have : (ts : List SumTerm) → any_has (map (λ (t : SumTerm). (t, sum_has t)) ts) ≡ list_any sum_term_has ts
sums_have ts = parts_have sum_has ts ∙ alike sum_has sum_term_has sum_is ts

pub prods_have : (ts : List ProdTerm) → any_has (map (λ (t : ProdTerm). (t, prod_has t)) ts) ≡ list_any prod_term_has ts
prods_have ts = parts_have prod_has ts ∙ alike prod_has prod_term_has prod_is ts

pub arms_have : (ms : List Arm) → any_has (map (λ (a : Arm). (a, arm_has a)) ms) ≡ list_any case_arm_has ms
arms_have ms = parts_have arm_has ms ∙ alike arm_has case_arm_has arm_is ms
