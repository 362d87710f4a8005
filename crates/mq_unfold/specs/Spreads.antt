-- What stands in a place of the single left sides, and how much of it there is.
use Rattle.std.specs.Prelude.{◌≡◌, ℕ, ◌+◌, min, List, [], ◌∷◌}
use Rattle.mq_values.specs.declared.limits.TheConstants.{MAX_SINGLE_LEFT_SIDES}
use Rattle.mq_ir.specs.declared.query.SinglePlace.{SinglePlace}
use Rattle.mq_ir.specs.Unfolding.{steps_of}
use Rattle.mq_unfold.specs.declared.forms.Form.{Form}
use Rattle.mq_unfold.specs.declared.forms.Form.TheVariants.{One, Listed, Stepped}

-- the places that these stand for, in order
abbrev pub form_places : Form → List SinglePlace
form_places (One place) = place ∷ []
form_places (Listed places) = places
form_places (Stepped steps) = steps_of steps.down steps.start steps.stop steps.step

-- two numbers of single left sides are the same, or both more than there may be
abbrev pub IsAlike : ℕ → ℕ → Type 0
IsAlike m n = min m (MAX_SINGLE_LEFT_SIDES + 1) ≡ min n (MAX_SINGLE_LEFT_SIDES + 1)
