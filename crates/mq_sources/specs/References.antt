-- References over tables.
use Rattle.std.specs.Prelude.{List, [], map, Result}
use Rattle.mq_values.specs.declared.faults.QueryFault.{QueryFault}
use Rattle.mq_ir.specs.declared.query.RefArray.{RefArray}
use Rattle.mq_ir.specs.declared.query.RefPart.{RefPart}
use Rattle.mq_ir.specs.Partitions.{Cells}
use Rattle.mq_ir.specs.Placed.{at_partition}
use Rattle.mq_ir.specs.References.{reference_over}
use Rattle.mq_ir.specs.Results.{marked}
use Rattle.mq_ir.specs.Tables.{Tables}

abbrev pub cells_of_array : RefArray → Cells
cells_of_array array = array.cells

abbrev pub cells_of_arrays : List RefArray → List Cells
cells_of_arrays arrays = map cells_of_array arrays

-- the cells of a reference, or the fault of the query that it is
abbrev pub reference_found : Tables → RefPart → Result Cells QueryFault
reference_found tables part = marked (at_partition []) (reference_over tables part)
