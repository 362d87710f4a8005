-- Item rows by their partition keys, and what the rows of a partition come to.
use Rattle.std.specs.Prelude.{ℕ, List, Bool, map, take, drop, length}
use Rattle.std.specs.Ordering.{on}
use Rattle.std.specs.declared.cmp.Ordering.{Ordering}
use Rattle.mq_values.specs.Order.{cmp_key}
use Rattle.mq_ir.specs.declared.query.ModelPart.{ModelPart}
use Rattle.mq_ir.specs.declared.query.PartInput.{PartInput}
use Rattle.mq_ir.specs.Keys.{Tuple, each_first, is_same}
use Rattle.mq_ir.specs.Partitions.{cells_of, cut, input_of, repeated}

-- rows by their partition keys
abbrev pub by_parts : ℕ → Tuple → Tuple → Ordering
by_parts parts = on (take parts) cmp_key

-- whether a row has this partition key
abbrev pub has_parts : ℕ → Tuple → Tuple → Bool
has_parts parts key row = is_same key (take parts row)

-- the dimension tuple and the measures of an item row
abbrev pub cut_row : ModelPart → Tuple → Tuple × Tuple
cut_row part row = cut (length part.dims) (drop part.parts row)

-- the input of the partition of this key, whose rows these are
abbrev pub input_from : ModelPart → Tuple → List Tuple → PartInput
input_from part key rows =
    let cells = map (cut_row part) rows in
    record { key = key; cells = cells_of cells; repeated = repeated (map (λ row. row.0) cells) }

-- an input for each partition key, in order of its first row
abbrev pub inputs_in : ModelPart → List Tuple → List PartInput
inputs_in part rows = map (input_of part rows) (each_first (map (take part.parts) rows))
