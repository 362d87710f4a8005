-- What a query with MODEL reads of tables, once its items are there.
use Rattle.std.specs.Prelude.{List, Result, Ok}
use Rattle.mq_values.specs.declared.faults.QueryFault.{QueryFault}
use Rattle.mq_ir.specs.declared.query.ModelPart.{ModelPart}
use Rattle.mq_ir.specs.declared.query.PartInput.{PartInput}
use Rattle.mq_ir.specs.Answer.{model_over}
use Rattle.mq_ir.specs.Partitions.{Tuple, partitions}
use Rattle.mq_ir.specs.Results.{◌>>=◌}
use Rattle.mq_ir.specs.Tables.{Tables}
use Rattle.mq_ir.specs.Unfolding.{Model}
use Rattle.mq_sources.specs.References.{cells_of_arrays}
use Rattle.mq_kept.specs.Kept.{model_with}
use Rattle.mq_kept.specs.declared.sources.Sources.{Sources}

-- what was read, as definitions see it
abbrev pub found_in : ModelPart → Sources → List PartInput × Model
found_in part found = (found.inputs, model_with part found.lists (cells_of_arrays found.refs))

abbrev pub read_with : Tables → List Tuple → ModelPart → Result (List PartInput × Model) QueryFault
read_with tables items part = model_over tables part >>= (λ model. Ok (partitions part items, model))
