-- The rules of a model by their numbers.
use Rattle.std.proofs.Common.{◌≡◌, ℕ, ◌+◌, ◌<◌, List, get_or, length, Some, refl, sym, ap, subst, ◌∙◌, add-one}
use Rattle.std.proofs.lemmas.Option.{slice_get_read}
use Rattle.mq_ir.specs.declared.query.ModelPart.{ModelPart}
use Rattle.mq_ir.specs.declared.query.Rule.{Rule}
use Rattle.mq_unfold.specs.LeftSides.{rule_of}
use Rattle.mq_ir.specs.Ready.{LeftHasPlaces, LeftsHavePlaces}

-- the rule of a number, counted from 1
pub rule_at : (rules : List Rule) (i n : ℕ) (rule : Rule) → n ≡ i + 1 → i < length rules → rule ≡ get_or rules i rule
    → rule_of rules n ≡ Some rule
rule_at rules i n rule e lt is = ap (rule_of rules) (e ∙ add-one i) ∙ slice_get_read rules (length rules) i rule refl lt is

-- a rule has a place for each dimension where all have
pub left_has_places : (part : ModelPart) (i : ℕ) (rule : Rule) → LeftsHavePlaces part → i < length part.rules
    → rule ≡ get_or part.rules i rule → LeftHasPlaces (length part.dims) rule.left
left_has_places part i rule h lt e = subst (λ (r : Rule). LeftHasPlaces (length part.dims) r.left) (sym e) (h i rule lt)
