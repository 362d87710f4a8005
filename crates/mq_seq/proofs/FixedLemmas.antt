-- Left sides that are the same in every turn.
use Rattle.std.proofs.Common.{◌≡◌, ℕ, [], ◌∷◌, Result, Ok, Err, Some, refl, sym, ap, ◌∙◌}
use Rattle.std.specs.Option.{option_map_or}
use Rattle.mq_ir.specs.declared.query.Rule.{Rule}
use Rattle.mq_ir.specs.Placed.{placed_fault}
use Rattle.mq_ir.specs.Results.{◌>>=◌, each_in_turn, marked}
use Rattle.mq_ir.specs.Unfolding.{Model, unfold_rule}
use Rattle.mq_unfold.specs.LeftSides.{rule_of}
use Rattle.mq_unfold.specs.declared.fixed.Fixed.{Fixed}
use Rattle.mq_unfold.specs.FixedLefts.{IsFixed}
use Rattle.mq_unfold.specs.SingleLefts.{lefts_of}
use Rattle.mq_seq.specs.Steps.{State, acting, left_done, rule_done}

-- ---- the rule acts by this left side
lefts_are : (model : Model) (turn : ℕ) (rule : Rule) (f : Fixed) → IsFixed model f → rule_of model.part.rules f.number ≡ Some rule
    → lefts_of model turn f.number rule ≡ Ok (f.left ∷ [])
lefts_are model turn rule f w there =
    ap (marked (placed_fault f.number [])) (sym (ap (λ o. option_map_or (λ (r : Rule). unfold_rule model r turn) o (Ok [])) there) ∙ w.always turn)

one_step : {A S E : Type 0} (step : A → S → Result S E) (r : Result S E) → (r >>= each_in_turn step []) ≡ r
one_step step (Ok s) = refl
one_step step (Err e) = refl

pub fixed_rule : (model : Model) (turn number : ℕ) (rule : Rule) (f : Fixed) (s : State) → IsFixed model f → f.number ≡ number → rule_of model.part.rules number ≡ Some rule
    → left_done (acting model number rule turn) f.left s ≡ rule_done model turn (number, rule) s
fixed_rule model turn number rule f s w e there =
    sym
    (ap (λ r. r >>= (λ lefts. each_in_turn (left_done (acting model number rule turn)) lefts s))
    (ap (λ n. lefts_of model turn n rule) (sym e) ∙ lefts_are model turn rule f w (ap (rule_of model.part.rules) e ∙ there))
    ∙ one_step (left_done (acting model number rule turn)) (left_done (acting model number rule turn) f.left s))
