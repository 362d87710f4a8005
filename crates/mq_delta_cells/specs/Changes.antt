-- A change of a partition's input, and what is asked of it.
use Rattle.std.specs.Prelude.{◌≡◌, ℕ, Bool, ◌&&◌, List, Result, Ok, Err}
use Rattle.std.specs.Map.{keys_of}
use Rattle.std.specs.Ordering.{is_ne}
use Rattle.mq_values.specs.Order.{cmp_value}
use Rattle.mq_ir.specs.declared.query.CellName.{CellName}
use Rattle.mq_ir.specs.declared.query.Look.{Look}
use Rattle.mq_ir.specs.declared.query.PartShape.{PartShape}
use Rattle.mq_ir.specs.Affected.{Side, is_affected, is_in_both}
use Rattle.mq_ir.specs.Keys.{Tuple}
use Rattle.mq_ir.specs.Partitions.{Cells, cell_at}
use Rattle.mq_ir.specs.Placed.{Placed}
use Rattle.mq_ir.specs.Reads.{measure_at}
use Rattle.mq_ir.specs.Unfolding.{Model}
use Rattle.mq_cells.specs.Stores.{CellInput, Results}
use Rattle.mq_change_laws.specs.Sides.{IsShaped}
use Rattle.mq_auto.specs.Meaning.{result_at}
use Rattle.mq_delta_cells.specs.Bounds.{most_reads}
use Rattle.mq_delta_cells.specs.Seeds.{is_moved}

-- an input with its shape
abbrev pub side_of : PartShape → Cells → Side
side_of shape input = record { shape = shape; input = input }

-- a measure stands in both inputs, with different values
abbrev pub has_moved : Cells → Cells → CellName → Bool
has_moved before after c =
    is_in_both (keys_of before) (keys_of after) c.key && is_ne (cmp_value (measure_at before c) (measure_at after c))

-- What is asked of an old input, a new one, and a store of cells.
pub record IsChange (model : Model) (old : PartShape) (keys : List Tuple) (moved : List CellName)
    (before after : Cells) (given : CellInput) (results : Results) : Type 0 where
  -- the store has the new input, and its keys are these
  pub given_is : given ≡ cell_at after
  pub keys_are : keys_of after ≡ keys
  -- the shape is that of the old input, and the results are its automatic ones, with the same lists and arrays of the model
  pub shaped : IsShaped model (side_of old before)
  pub held : (c : CellName) → results c ≡ result_at model old before c
  -- what moved is what stands in both inputs with different values
  pub moved_are : (c : CellName) → is_moved moved c ≡ has_moved before after c

-- what a change reaches, where the new input has this shape
abbrev pub reaches : Model → PartShape → PartShape → Cells → Cells → Look → Bool
reaches model old new before after = is_affected model (side_of old before) (side_of new after)

-- how many measures are read at most: those that the assignments look at which a change reaches; none where the shape has a fault
abbrev pub reads_of_change : Model → PartShape → Result PartShape Placed → Cells → Cells → ℕ
reads_of_change model old (Ok new) before after = most_reads model new (reaches model old new before after)
reads_of_change model old (Err fault) before after = 0
