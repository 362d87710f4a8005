-- The array of a reference with where its fault stands, row by row.
use Rattle.std.specs.Prelude.{List, [], ◌∷◌, Result, Ok}
use Rattle.mq_values.specs.Answers.{result_map}
use Rattle.mq_values.specs.declared.faults.QueryFault.{QueryFault}
use Rattle.mq_values.specs.declared.faults.ValueFault.{ValueFault}
use Rattle.mq_ir.specs.declared.query.RefArray.{RefArray}
use Rattle.mq_ir.specs.declared.query.RefPart.{RefPart}
use Rattle.mq_ir.specs.Answer.{plain_fault}
use Rattle.mq_ir.specs.Expression.{ev}
use Rattle.mq_ir.specs.Items.{row_leaves}
use Rattle.mq_ir.specs.Keys.{Tuple}
use Rattle.mq_ir.specs.Placed.{at_partition, kind_of}
use Rattle.mq_ir.specs.References.{reference_of}
use Rattle.mq_ir.specs.Results.{◌>>=◌, each, marked}

-- the array, or the fault of the query that it is
abbrev pub array_of : RefPart → List Tuple → Result RefArray QueryFault
array_of part items = result_map (λ cells. record { cells = cells }) (marked (at_partition []) (reference_of part items))

-- the dimensions of a row and then its measures
abbrev pub values_found : RefPart → Tuple → Result (Tuple × Tuple) ValueFault
values_found part row =
    each (ev (row_leaves (row ∷ []))) part.dims >>= (λ key. each (ev (row_leaves (row ∷ []))) part.measures >>= (λ measures. Ok (key, measures)))

abbrev pub row_found : RefPart → Tuple → Result (Tuple × Tuple) QueryFault
row_found part row = marked (λ fault. plain_fault 0 (kind_of fault)) (values_found part row)
