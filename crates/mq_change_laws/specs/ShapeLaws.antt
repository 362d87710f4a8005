-- What holds of the shape of an input.
use Rattle.std.specs.Prelude.{◌≡◌, ◌<◌, ◌-◌, true, List, Ok, Some, IsSome, slice_get}
use Rattle.std.specs.List.{All, find}
use Rattle.std.specs.List.Sorted.{IsStrictlySortedBy}
use Rattle.mq_values.specs.Order.{cmp_key}
use Rattle.mq_ir.specs.declared.query.PartShape.{PartShape}
use Rattle.mq_ir.specs.Keys.{Tuple, is_among}
use Rattle.mq_ir.specs.Shape.{assigns, shape_over}
use Rattle.mq_ir.specs.Unfolding.{Model}

-- what holds of a shape that the rules make of these keys
pub record IsSound (model : Model) (keys : List Tuple) (shape : PartShape) : Type 0 where
  -- its input has these keys, and each of them is a cell in the end
  pub base : shape.base ≡ keys
  pub kept : (key : Tuple) → is_among shape.base key ≡ true → is_among shape.cells key ≡ true
  -- its cells ascend, each once
  pub ascend : IsStrictlySortedBy cmp_key shape.cells
  -- each assignment is of a cell that is there, by a rule of the model, numbered from 1
  pub placed : All (λ a. is_among shape.cells a.0 ≡ true) shape.assigned
  pub ruled : All (λ a. (0 < a.2) × IsSome (slice_get model.part.rules (a.2 - 1))) shape.assigned
  -- no measure of a cell is assigned twice: the assignment that is found under its measure is itself
  pub own : All (λ a. find (assigns a.1 a.0) shape.assigned ≡ Some a) shape.assigned

-- Where keys ascend, each once, and the walk over the rules makes a shape of them, it is sound.
abbrev pub ShapeIsSound : Model → List Tuple → PartShape → Type 0
ShapeIsSound model keys shape = IsStrictlySortedBy cmp_key keys → shape_over model keys ≡ Ok shape → IsSound model keys shape
