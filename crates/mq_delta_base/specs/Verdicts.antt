-- What the conditions of a query say of a tuple of places.
use Rattle.std.specs.Prelude.{◌≡◌, ℕ, ◌<◌, Bool, true, false, List, [], ◌∷◌, length, nat_lt, if◌then◌else◌, Result, Ok, Err}
use Rattle.mq_values.specs.declared.faults.FaultKind.{FaultKind}
use Rattle.mq_values.specs.declared.faults.FaultKind.TheVariants as kind
use Rattle.mq_values.specs.declared.limits.TheConstants.{MAX_BASE_ROWS}
use Rattle.mq_ir.specs.declared.query.FromPart.{FromPart}
use Rattle.mq_ir.specs.BaseRows.{Places, all_true, conditions_of, row_leaves, rows_at}
use Rattle.mq_ir.specs.Keys.{Tuple}
use Rattle.mq_ir.specs.Placed.{kind_of}
use Rattle.mq_ir.specs.Results.{marked}

-- whether all conditions are true of the rows at these places, or the first fault on the way
abbrev pub verdict : FromPart → List (List Tuple) → Places → Result Bool FaultKind
verdict from items t = marked kind_of (all_true (row_leaves (rows_at items t)) (conditions_of from))

abbrev pub is_yes : Result Bool FaultKind → Bool
is_yes (Ok taken) = taken
is_yes (Err fault) = false

-- no fault
abbrev pub IsCalm : Result Bool FaultKind → Type 0
IsCalm v = (taken : Bool) × (v ≡ Ok taken)

-- these tuples, if they are not too many
abbrev pub limited : List Places → Result (List Places) FaultKind
limited kept = if nat_lt MAX_BASE_ROWS (length kept) then Err kind.TooManyRows else Ok kept

-- a place for each item, that is there
abbrev pub Within : List ℕ → Places → Type 0
Within [] [] = Unit {0}
Within [] (p ∷ ps) = ⊥
Within (n ∷ counts) [] = ⊥
Within (n ∷ counts) (p ∷ ps) = (p < n) × Within counts ps
