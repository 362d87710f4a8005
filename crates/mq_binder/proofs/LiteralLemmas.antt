-- The literals of an expression, and what it is bound to, at one layer.
use Rattle.std.proofs.Common.{◌≡◌, ℕ, Bool, ◌&&◌, Ok, ap}
use Rattle.mq_ast.specs.declared.expressions.Arm.{Arm, para-Arm, para-roll-Arm, roll-Arm}
use Rattle.mq_ast.specs.declared.expressions.E.{E, map-E, para-roll-E, roll-E}
use Rattle.mq_ast.specs.declared.expressions.E.TheOpen as layer
use Rattle.mq_ast.specs.declared.expressions.Place.{Place, map-Place, para-Place, para-roll-Place, roll-Place}
use Rattle.mq_ast.specs.declared.expressions.ProdTerm.{ProdTerm, para-ProdTerm, para-roll-ProdTerm, roll-ProdTerm}
use Rattle.mq_ast.specs.declared.expressions.SumTerm.{SumTerm, para-SumTerm, para-roll-SumTerm, roll-SumTerm}
use Rattle.mq_ir.specs.Results.{◌>>=◌}
use Rattle.mq_bind_scopes.specs.declared.scopes.Owner.{Owner}
use Rattle.mq_bind_scopes.specs.declared.scopes.Position.{Position}
use Rattle.mq_bind_scopes.specs.declared.scopes.Scope.{Scope}
use Rattle.mq_bind_expr.specs.ExpressionLayers.{layer_arm, layer_bound, layer_place, layer_prod, layer_sum}
use Rattle.mq_bind_expr.specs.ExpressionRolls.{arm_bound, place_bound, prod_bound, sum_bound}
use Rattle.mq_bind_expr.specs.ExpressionVisits.{ArmMeaning, Meaning, PlaceLayer, PlaceMeaning}
use Rattle.mq_bind_expr.specs.ExpressionWalk.{bound}
use Rattle.mq_binder.specs.Literals.{layer_literals, literals_fit, place_literals}

unfoldable pub place_lit : Place → Bool
place_lit =
    para-Place Bool Bool Bool Bool Bool
    layer_literals place_literals (λ arm. arm.test.1 && arm.value.1) (λ term. term.e.1) (λ term. term.e.1)

unfoldable pub arm_lit : Arm → Bool
arm_lit =
    para-Arm Bool Bool Bool Bool Bool
    layer_literals place_literals (λ arm. arm.test.1 && arm.value.1) (λ term. term.e.1) (λ term. term.e.1)

unfoldable pub prod_lit : ProdTerm → Bool
prod_lit =
    para-ProdTerm Bool Bool Bool Bool Bool
    layer_literals place_literals (λ arm. arm.test.1 && arm.value.1) (λ term. term.e.1) (λ term. term.e.1)

unfoldable pub sum_lit : SumTerm → Bool
sum_lit =
    para-SumTerm Bool Bool Bool Bool Bool
    layer_literals place_literals (λ arm. arm.test.1 && arm.value.1) (λ term. term.e.1) (λ term. term.e.1)

abbrev pub with_literals : layer.E-F E Place Arm ProdTerm SumTerm → layer.E-F (E × Bool) (Place × Bool) (Arm × Bool) (ProdTerm × Bool) (SumTerm × Bool)
with_literals =
    map-E E Place Arm ProdTerm SumTerm (E × Bool) (Place × Bool) (Arm × Bool) (ProdTerm × Bool) (SumTerm × Bool)
    (λ x. (x, literals_fit x)) (λ x. (x, place_lit x)) (λ x. (x, arm_lit x)) (λ x. (x, prod_lit x)) (λ x. (x, sum_lit x))

abbrev pub place_with_literals : layer.Place-F E Place Arm ProdTerm SumTerm → layer.Place-F (E × Bool) (Place × Bool) (Arm × Bool) (ProdTerm × Bool) (SumTerm × Bool)
place_with_literals =
    map-Place E Place Arm ProdTerm SumTerm (E × Bool) (Place × Bool) (Arm × Bool) (ProdTerm × Bool) (SumTerm × Bool)
    (λ x. (x, literals_fit x)) (λ x. (x, place_lit x)) (λ x. (x, arm_lit x)) (λ x. (x, prod_lit x)) (λ x. (x, sum_lit x))

pub literals_roll : (x : layer.E-F E Place Arm ProdTerm SumTerm) → literals_fit (roll-E x) ≡ layer_literals (with_literals x)
unfolding literals_fit place_lit arm_lit prod_lit sum_lit
literals_roll x =
    para-roll-E Bool Bool Bool Bool Bool
    layer_literals place_literals (λ arm. arm.test.1 && arm.value.1) (λ term. term.e.1) (λ term. term.e.1) x

pub place_lit_roll : (x : layer.Place-F E Place Arm ProdTerm SumTerm) → place_lit (roll-Place x) ≡ place_literals (place_with_literals x)
unfolding literals_fit place_lit arm_lit prod_lit sum_lit
place_lit_roll x =
    para-roll-Place Bool Bool Bool Bool Bool
    layer_literals place_literals (λ arm. arm.test.1 && arm.value.1) (λ term. term.e.1) (λ term. term.e.1) x

pub arm_lit_roll : (x : layer.Arm-F E Place Arm ProdTerm SumTerm) → arm_lit (roll-Arm x) ≡ (literals_fit x.test && literals_fit x.value)
unfolding literals_fit arm_lit
arm_lit_roll x =
    para-roll-Arm Bool Bool Bool Bool Bool
    layer_literals place_literals (λ arm. arm.test.1 && arm.value.1) (λ term. term.e.1) (λ term. term.e.1) x

pub prod_lit_roll : (x : layer.ProdTerm-F E Place Arm ProdTerm SumTerm) → prod_lit (roll-ProdTerm x) ≡ literals_fit x.e
unfolding literals_fit prod_lit
prod_lit_roll x =
    para-roll-ProdTerm Bool Bool Bool Bool Bool
    layer_literals place_literals (λ arm. arm.test.1 && arm.value.1) (λ term. term.e.1) (λ term. term.e.1) x

pub sum_lit_roll : (x : layer.SumTerm-F E Place Arm ProdTerm SumTerm) → sum_lit (roll-SumTerm x) ≡ literals_fit x.e
unfolding literals_fit sum_lit
sum_lit_roll x =
    para-roll-SumTerm Bool Bool Bool Bool Bool
    layer_literals place_literals (λ arm. arm.test.1 && arm.value.1) (λ term. term.e.1) (λ term. term.e.1) x

-- what the other trees are bound to
abbrev pub place_with_meaning : Scope → layer.Place-F E Place Arm ProdTerm SumTerm → PlaceLayer
place_with_meaning scope =
    map-Place E Place Arm ProdTerm SumTerm (E × Meaning) (Place × PlaceMeaning) (Arm × ArmMeaning) (ProdTerm × Meaning) (SumTerm × Meaning)
    (λ x. (x, bound scope x)) (λ x. (x, place_bound scope x)) (λ x. (x, arm_bound scope x)) (λ x. (x, prod_bound scope x)) (λ x. (x, sum_bound scope x))

pub place_bound_roll : (scope : Scope) (x : layer.Place-F E Place Arm ProdTerm SumTerm) (at : Position) (o : Owner) (n : ℕ) →
    place_bound scope (roll-Place x) at o n ≡ layer_place scope (place_with_meaning scope x) at o n
unfolding bound place_bound arm_bound prod_bound sum_bound
place_bound_roll scope x at o n =
    ap (λ (m : PlaceMeaning). m at o n)
    (para-roll-Place Meaning PlaceMeaning ArmMeaning Meaning Meaning
    (layer_bound scope) (layer_place scope) layer_arm layer_prod layer_sum x)

pub arm_bound_roll : (scope : Scope) (x : layer.Arm-F E Place Arm ProdTerm SumTerm) (at : Position) →
    arm_bound scope (roll-Arm x) at ≡ (bound scope x.test at >>= (λ f. bound scope x.value at >>= (λ g. Ok (f, g))))
unfolding bound arm_bound
arm_bound_roll scope x at =
    ap (λ (m : ArmMeaning). m at)
    (para-roll-Arm Meaning PlaceMeaning ArmMeaning Meaning Meaning
    (layer_bound scope) (layer_place scope) layer_arm layer_prod layer_sum x)

pub prod_bound_roll : (scope : Scope) (x : layer.ProdTerm-F E Place Arm ProdTerm SumTerm) (at : Position) → prod_bound scope (roll-ProdTerm x) at ≡ bound scope x.e at
unfolding bound prod_bound
prod_bound_roll scope x at =
    ap (λ (m : Meaning). m at)
    (para-roll-ProdTerm Meaning PlaceMeaning ArmMeaning Meaning Meaning
    (layer_bound scope) (layer_place scope) layer_arm layer_prod layer_sum x)

pub sum_bound_roll : (scope : Scope) (x : layer.SumTerm-F E Place Arm ProdTerm SumTerm) (at : Position) → sum_bound scope (roll-SumTerm x) at ≡ bound scope x.e at
unfolding bound sum_bound
sum_bound_roll scope x at =
    ap (λ (m : Meaning). m at)
    (para-roll-SumTerm Meaning PlaceMeaning ArmMeaning Meaning Meaning
    (layer_bound scope) (layer_place scope) layer_arm layer_prod layer_sum x)
