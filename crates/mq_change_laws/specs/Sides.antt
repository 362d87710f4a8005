-- An input of a partition with the shape that the rules make of it, and what stands at its nodes in the end.
use Rattle.std.specs.Prelude.{◌≡◌, Bool, Option, Ok}
use Rattle.std.specs.List.Sorted.{IsStrictlySortedBy}
use Rattle.std.specs.Map.{keys_of}
use Rattle.std.specs.Option.{option_map}
use Rattle.mq_values.specs.Order.{cmp_key}
use Rattle.mq_ir.specs.declared.query.CellName.{CellName}
use Rattle.mq_ir.specs.declared.query.Look.{Look}
use Rattle.mq_ir.specs.declared.query.Look.TheVariants.{Measure}
use Rattle.mq_ir.specs.declared.query.PartShape.{PartShape}
use Rattle.mq_ir.specs.declared.query.Slot.{Slot}
use Rattle.mq_ir.specs.Affected.{Side}
use Rattle.mq_ir.specs.Automatic.{node_looks, round_count, slots_in}
use Rattle.mq_ir.specs.Rounds.{levelled}
use Rattle.mq_ir.specs.Shape.{shape_over}
use Rattle.mq_ir.specs.Unfolding.{Model}

-- The cells of the input ascend, each once, and the walk over the rules makes this shape of them, without a fault. There
-- may be a cycle in it.
pub record IsShaped (model : Model) (side : Side) : Type 0 where
  pub keys : IsStrictlySortedBy cmp_key (keys_of side.input)
  pub shape : shape_over model (keys_of side.input) ≡ Ok side.shape

-- a node that is levelled in the end
abbrev pub is_levelled_in : Model → PartShape → Look → Bool
is_levelled_in model shape = levelled (node_looks model shape) (round_count shape)

-- the slot of a measure in the end, where a rule assigns it
abbrev pub result_in : Model → Side → CellName → Option Slot
result_in model side c = option_map (λ looks. slots_in model side.shape side.input c) (node_looks model side.shape (Measure c))
