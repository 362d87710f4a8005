-- Models over the items of their query, and the rows that they leave.
use Rattle.std.specs.Prelude.{List, [], Result, Ok}
use Rattle.mq_values.specs.declared.faults.QueryFault.{QueryFault}
use Rattle.mq_ir.specs.declared.query.ModelPart.{ModelPart}
use Rattle.mq_ir.specs.declared.query.PartInput.{PartInput}
use Rattle.mq_ir.specs.Answer.{partition_step}
use Rattle.mq_ir.specs.Partitions.{Tuple}
use Rattle.mq_ir.specs.Results.{◌>>=◌, each_in_turn}
use Rattle.mq_ir.specs.Unfolding.{Model}
use Rattle.mq_ir.specs.Ready.{HaveLength, LeftsHavePlaces, width_of}

-- the rules of a model may run over these item rows: each left side has a place, and each row a value, for each dimension
pub record MayRun (part : ModelPart) (items : List Tuple) : Type 0 where
  pub lefts : LeftsHavePlaces part
  pub wide : HaveLength (width_of part) items

-- the rows of these partitions, one after another
abbrev pub gathered_rows : Model → List PartInput → Result (List Tuple) QueryFault
gathered_rows model inputs = each_in_turn (partition_step model) inputs (0, []) >>= (λ gathered. Ok gathered.1)
