-- What calls of a store make of it, one after the other.
use Rattle.std.specs.Prelude.{ℕ, List, [], ◌∷◌, ◌++◌, Option, Some, None, if◌then◌else◌}
use Rattle.mq_ir.specs.declared.query.CellName.{CellName}
use Rattle.mq_ir.specs.declared.query.Slot.{Slot}
use Rattle.mq_cells.specs.Stores.{CellInput, Results, counted, is_named, slot_at}
use Rattle.mq_cells.specs.declared.replays.CellCall.{CellCall}
use Rattle.mq_cells.specs.declared.replays.CellCall.TheVariants.{Get, Put, Clear}

-- the results, where this stands in this one place
abbrev pub with_result : Results → CellName → Option Slot → Results
with_result results name slot c = if is_named name c then slot else results c

-- what stands after one call
abbrev pub results_by : Results → CellCall → Results
results_by results (Get name) = results
results_by results (Put name slot) = with_result results name (Some slot)
results_by results (Clear name) = with_result results name None

-- what one call reads
abbrev pub slots_by : CellInput → Results → CellCall → List Slot
slots_by input results (Get name) = slot_at input results name ∷ []
slots_by input results (Put name slot) = []
slots_by input results (Clear name) = []

-- how many were read after one call
abbrev pub looks_by : ℕ → CellCall → ℕ
looks_by looks (Get name) = counted looks
looks_by looks (Put name slot) = looks
looks_by looks (Clear name) = looks

-- the slots that calls read, and what stands after them
abbrev pub replayed : CellInput → Results → List CellCall → List Slot × Results
replayed input results [] = ([], results)
replayed input results (call ∷ calls) =
    let rest = replayed input (results_by results call) calls in
    (slots_by input results call ++ rest.0, rest.1)

-- how many were read after calls
abbrev pub looks_after : ℕ → List CellCall → ℕ
looks_after looks [] = looks
looks_after looks (call ∷ calls) = looks_after (looks_by looks call) calls
