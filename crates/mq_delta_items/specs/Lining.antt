-- Lines that are put behind others, row by row.
use Rattle.std.specs.Prelude.{Bool, List, [], ◌∷◌, ◌++◌, if◌then◌else◌, Option, Some, None, Result}
use Rattle.std.specs.Option.{option_and_then}
use Rattle.std.specs.Result.{result_ok}
use Rattle.mq_values.specs.declared.faults.FaultKind.{FaultKind}
use Rattle.mq_ir.specs.Keys.{Tuple}
use Rattle.mq_delta_items.specs.Lines.{few}

-- these lines with that of one row more; none, where the row faults, or too many are taken
abbrev pub with_line : Result (Option Tuple) FaultKind → List (Option Tuple) → Option (List (Option Tuple))
with_line found lines = option_and_then (λ line. few (lines ++ line ∷ [])) (result_ok found)

-- the lines, where another was put to them
abbrev pub if_put : Bool → List (Option Tuple) → Option (List (Option Tuple))
if_put put lines = if put then Some lines else None
