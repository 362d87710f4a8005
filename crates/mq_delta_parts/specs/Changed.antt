-- The rows of a partition, before and after a change of all rows.
use Rattle.std.specs.Prelude.{◌≡◌, List}
use Rattle.std.specs.List.{filter}
use Rattle.mq_ir.specs.declared.query.ModelPart.{ModelPart}
use Rattle.mq_ir.specs.declared.query.PartInput.{PartInput}
use Rattle.mq_ir.specs.Keys.{Tuple}
use Rattle.mq_ir.specs.Partitions.{input_of}
use Rattle.mq_shape.specs.Runs.{has_parts}
use Rattle.mq_delta_parts.specs.Woven.{IsChangeOf}

-- the input of a partition over the rows before; and its rows that went and came until those after
pub record IsChangeIn (part : ModelPart) (old : PartInput) (gone come before after : List Tuple) : Type 0 where
  pub input_is : old ≡ input_of part before old.key
  pub rows : IsChangeOf (filter (has_parts part.parts old.key) before) gone come (filter (has_parts part.parts old.key) after)
