-- The walk at one layer of an expression, and what it makes of lists of parts.
use Rattle.std.specs.Prelude.{◌≡◌, ℕ, Result, Ok}
use Rattle.std.proofs.Common.{sym, ap, ◌∙◌}
use Rattle.mq_values.specs.declared.faults.Refused.{Refused}
use Rattle.mq_ast.specs.declared.expressions.Arm.{Arm, para-Arm, para-roll-Arm, rolls-Arm'}
use Rattle.mq_ast.specs.declared.expressions.E.{E, map-E, para-roll-E, roll-E}
use Rattle.mq_ast.specs.declared.expressions.E.TheOpen as layer
use Rattle.mq_ast.specs.declared.expressions.Place.{Place, para-Place, para-roll-Place}
use Rattle.mq_ast.specs.declared.expressions.Place.TheVariants as place
use Rattle.mq_ast.specs.declared.expressions.ProdTerm.{ProdTerm, para-ProdTerm, para-roll-ProdTerm, rolls-ProdTerm'}
use Rattle.mq_ast.specs.declared.expressions.SumTerm.{SumTerm, para-SumTerm, para-roll-SumTerm, rolls-SumTerm'}
use Rattle.mq_ir.specs.Results.{◌>>=◌}
use Rattle.mq_bind_scopes.specs.declared.scopes.Owner.{Owner}
use Rattle.mq_bind_scopes.specs.declared.scopes.Position.{Position}
use Rattle.mq_bind_scopes.specs.declared.scopes.Scope.{Scope}
use Rattle.mq_bind_expr.specs.ExpressionLayers.{layer_arm, layer_bound, layer_place, layer_prod, layer_sum}
use Rattle.mq_bind_expr.specs.ExpressionVisits.{ArmMeaning, ELayer, Meaning, PlaceMeaning}
use Rattle.mq_bind_expr.specs.ExpressionWalk.{bound}
use Rattle.mq_bind_expr.specs.FunctionNodes.{ArmFound}

-- the walk over the other trees of an expression
unfoldable pub place_bound : Scope → Place → PlaceMeaning
place_bound scope =
    para-Place Meaning PlaceMeaning ArmMeaning Meaning Meaning
    (layer_bound scope) (layer_place scope) layer_arm layer_prod layer_sum

unfoldable pub arm_bound : Scope → Arm → ArmMeaning
arm_bound scope =
    para-Arm Meaning PlaceMeaning ArmMeaning Meaning Meaning
    (layer_bound scope) (layer_place scope) layer_arm layer_prod layer_sum

unfoldable pub prod_bound : Scope → ProdTerm → Meaning
prod_bound scope =
    para-ProdTerm Meaning PlaceMeaning ArmMeaning Meaning Meaning
    (layer_bound scope) (layer_place scope) layer_arm layer_prod layer_sum

unfoldable pub sum_bound : Scope → SumTerm → Meaning
sum_bound scope =
    para-SumTerm Meaning PlaceMeaning ArmMeaning Meaning Meaning
    (layer_bound scope) (layer_place scope) layer_arm layer_prod layer_sum

abbrev pub with_meaning : Scope → layer.E-F E Place Arm ProdTerm SumTerm → ELayer
with_meaning scope =
    map-E E Place Arm ProdTerm SumTerm (E × Meaning) (Place × PlaceMeaning) (Arm × ArmMeaning) (ProdTerm × Meaning) (SumTerm × Meaning)
    (λ e. (e, bound scope e)) (λ p. (p, place_bound scope p)) (λ a. (a, arm_bound scope a)) (λ t. (t, prod_bound scope t)) (λ t. (t, sum_bound scope t))

pub bound_roll : (scope : Scope) (x : layer.E-F E Place Arm ProdTerm SumTerm) (at : Position) →
    bound scope (roll-E x) at ≡ layer_bound scope (with_meaning scope x) at
unfolding bound place_bound arm_bound prod_bound sum_bound
bound_roll scope x at =
    ap (λ (m : Meaning). m at)
    (para-roll-E Meaning PlaceMeaning ArmMeaning Meaning Meaning
    (layer_bound scope) (layer_place scope) layer_arm layer_prod layer_sum x)

pub any_bound : (scope : Scope) (at : Position) (o : Owner) (n : ℕ) → place_bound scope place.Any at o n ≡ layer_place scope layer.Any at o n
unfolding place_bound
any_bound scope at o n =
    ap (λ p. place_bound scope p at o n) (sym place.rolls-Any)
    ∙ ap (λ (m : PlaceMeaning). m at o n)
    (para-roll-Place Meaning PlaceMeaning ArmMeaning Meaning Meaning
    (layer_bound scope) (layer_place scope) layer_arm layer_prod layer_sum layer.Any)

pub expr_bound : (scope : Scope) (e : E) (at : Position) (o : Owner) (n : ℕ) →
    place_bound scope (place.Expr e) at o n ≡ layer_place scope (layer.Expr (e, bound scope e)) at o n
unfolding bound place_bound
expr_bound scope e at o n =
    ap (λ p. place_bound scope p at o n) (sym (place.rolls-Expr e))
    ∙ ap (λ (m : PlaceMeaning). m at o n)
    (para-roll-Place Meaning PlaceMeaning ArmMeaning Meaning Meaning
    (layer_bound scope) (layer_place scope) layer_arm layer_prod layer_sum (layer.Expr e))

pub sum_is : (scope : Scope) (t : SumTerm) (at : Position) → sum_bound scope t at ≡ bound scope t.e at
unfolding bound sum_bound
sum_is scope t at =
    ap (λ t. sum_bound scope t at) (sym (rolls-SumTerm' (record { op = t.op; e = t.e })))
    ∙ ap (λ (m : Meaning). m at)
    (para-roll-SumTerm Meaning PlaceMeaning ArmMeaning Meaning Meaning
    (layer_bound scope) (layer_place scope) layer_arm layer_prod layer_sum (record { op = t.op; e = t.e }))

pub prod_is : (scope : Scope) (t : ProdTerm) (at : Position) → prod_bound scope t at ≡ bound scope t.e at
unfolding bound prod_bound
prod_is scope t at =
    ap (λ t. prod_bound scope t at) (sym (rolls-ProdTerm' (record { op = t.op; e = t.e })))
    ∙ ap (λ (m : Meaning). m at)
    (para-roll-ProdTerm Meaning PlaceMeaning ArmMeaning Meaning Meaning
    (layer_bound scope) (layer_place scope) layer_arm layer_prod layer_sum (record { op = t.op; e = t.e }))

-- an arm: its test, and then its result
abbrev pub arm_found : Scope → Position → Arm → Result ArmFound Refused
arm_found scope at a = bound scope a.test at >>= (λ f. bound scope a.value at >>= (λ g. Ok (f, g)))

pub arm_is : (scope : Scope) (a : Arm) (at : Position) → arm_bound scope a at ≡ arm_found scope at a
unfolding bound arm_bound
arm_is scope a at =
    ap (λ a. arm_bound scope a at) (sym (rolls-Arm' (record { test = a.test; value = a.value })))
    ∙ ap (λ (m : ArmMeaning). m at)
    (para-roll-Arm Meaning PlaceMeaning ArmMeaning Meaning Meaning
    (layer_bound scope) (layer_place scope) layer_arm layer_prod layer_sum (record { test = a.test; value = a.value }))

-- the two cases of a place
pub ruleset place_laws = (any_bound, expr_bound)
