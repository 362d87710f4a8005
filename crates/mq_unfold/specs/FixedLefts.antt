-- Left sides that are the same single left side in every turn.
use Rattle.std.specs.Prelude.{◌≡◌, ℕ, false, List, [], ◌∷◌, length, map, Option, IfSome, Ok}
use Rattle.std.specs.List.{All, list_any}
use Rattle.mq_ir.specs.declared.query.Left.{Left}
use Rattle.mq_ir.specs.declared.query.LeftItem.{LeftItem}
use Rattle.mq_ir.specs.declared.query.SinglePlace.{SinglePlace}
use Rattle.mq_ir.specs.Keys.{Tuple}
use Rattle.mq_ir.specs.Targets.{place_is_symbolic, value_of}
use Rattle.mq_ir.specs.Unfolding.{Model, item_places, left_places}
use Rattle.mq_unfold.specs.LeftSides.{left_sides_of}
use Rattle.mq_unfold.specs.declared.fixed.Fixed.{Fixed}

-- what stands in a place is the same in every turn
abbrev pub IsSteady : LeftItem → Type 0
IsSteady item = (model : Model) (dim turn other : ℕ) → item_places model turn (dim, item) ≡ item_places model other (dim, item)

abbrev pub IsSteadyLeft : Left → Type 0
IsSteadyLeft left = (model : Model) (turn other : ℕ) → left_places model turn left ≡ left_places model other left

-- places of which none is symbolic, and the key that they name
pub record NamesKey (places : List SinglePlace) (key : Tuple) : Type 0 where
  pub positional : list_any place_is_symbolic places ≡ false
  pub names : key ≡ map value_of places

-- the rule of the number stands for this single left side alone, in every turn, and the left side names this key
pub record IsFixed (model : Model) (fixed : Fixed) : Type 0 where
  pub always : (turn : ℕ) → left_sides_of model fixed.number turn ≡ Ok (fixed.left ∷ [])
  pub wide : length fixed.left.places ≡ length model.part.dims
  pub key : NamesKey fixed.left.places fixed.key

-- each of these that is there is fixed
abbrev pub AreFixed : Model → List (Option Fixed) → Type 0
AreFixed model = All (λ found. IfSome found (IsFixed model))
