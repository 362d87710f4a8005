-- The rows that the partitions of a view add to its answer.
use Rattle.std.specs.Prelude.{List, length, map, Result, Ok, Err}
use Rattle.mq_values.specs.declared.faults.QueryFault.{QueryFault}
use Rattle.mq_ir.specs.declared.query.ModelPart.{ModelPart}
use Rattle.mq_ir.specs.declared.query.OutCell.{OutCell}
use Rattle.mq_ir.specs.declared.query.PartInput.{PartInput}
use Rattle.mq_ir.specs.declared.query.PartResult.{PartResult}
use Rattle.mq_ir.specs.declared.query.PartResult.TheVariants as result
use Rattle.mq_ir.specs.Answer.{columns_of, result_in, returned}
use Rattle.mq_ir.specs.Partitions.{Tuple}
use Rattle.mq_ir.specs.Unfolding.{Model}
use Rattle.mq_kept.specs.declared.kept_view.ShownRows.{ShownRows}

-- the rows of the cells of a partition, and how many cells these are
abbrev pub rows_of_cells : ModelPart → Tuple → List OutCell → ShownRows
rows_of_cells part key cells = record { count = length cells; rows = map (columns_of key) (returned part cells) }

-- the same of what the rules made of it, or the fault to which they came
abbrev pub rows_of_result : ModelPart → Tuple → PartResult → Result ShownRows QueryFault
rows_of_result part key (result.Rows cells) = Ok (rows_of_cells part key cells)
rows_of_result part key (result.Fault fault) = Err fault

-- the same of what they make of an input
abbrev pub rows_of_input : Model → PartInput → Result ShownRows QueryFault
rows_of_input model input = rows_of_result model.part input.key (result_in model input)
