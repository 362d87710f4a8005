-- The arrays of references.
use Rattle.std.specs.Prelude.{List, [], ◌∷◌, ◌++◌, length, map, Result, Ok, Err, nat_lt, if◌then◌else◌}
use Rattle.std.specs.Option.{option_map_or}
use Rattle.mq_values.specs.declared.faults.FaultKind.TheVariants as kind
use Rattle.mq_ir.specs.declared.query.RefPart.{RefPart}
use Rattle.mq_ir.specs.Items.{items_over, items_at, row_leaves}
use Rattle.mq_values.specs.declared.limits.TheConstants.{MAX_CELLS_OF_REFERENCE}
use Rattle.mq_ir.specs.Partitions.{Tuple, Cells, cells_of, cut, repeated}
use Rattle.mq_ir.specs.Placed.{Placed, placed_fault}
use Rattle.mq_ir.specs.Results.{◌>>=◌, each, marked}
use Rattle.mq_ir.specs.Tables.{Tables}

-- the dimensions and then the measures of a reference, over one row of its own query, which stands as the one FROM item
abbrev pub reference_row : RefPart → Tuple → Result (Tuple × Tuple) Placed
reference_row part row =
    marked (placed_fault 0 []) (items_at (part.dims ++ part.measures) (row_leaves (row ∷ []))) >>= (λ values. Ok (cut (length part.dims) values))

-- the array of these rows: NOT_UNIQUE at the least tuple that stands twice, and only then the limit on their number
abbrev pub reference_array : List (Tuple × Tuple) → Result Cells Placed
reference_array rows =
    option_map_or (λ key. Err (placed_fault 0 key kind.NotUnique))
    (repeated (map (λ row. row.0) rows))
    (if nat_lt MAX_CELLS_OF_REFERENCE (length rows) then Err (placed_fault 0 [] kind.TooManyCells) else Ok (cells_of rows))

-- the array of a reference over the items of its query
abbrev pub reference_of : RefPart → List Tuple → Result Cells Placed
reference_of part items = each (reference_row part) items >>= reference_array

-- the same over tables: the query of the reference comes first
abbrev pub reference_over : Tables → RefPart → Result Cells Placed
reference_over tables part = marked (placed_fault 0 []) (items_over tables part.source.from part.source.items) >>= reference_of part
