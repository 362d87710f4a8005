-- A few results, each behind its name.
use Rattle.std.specs.Prelude.{ℕ, List, None}
use Rattle.std.specs.Map.{lookup}
use Rattle.mq_ir.specs.declared.query.CellName.{CellName}
use Rattle.mq_ir.specs.declared.query.Slot.{Slot}
use Rattle.mq_cells.specs.Stores.{CellInput, Results, is_named}

-- an input without cells
abbrev pub no_input : CellInput
no_input key = None

-- what stands among these at a measure of a cell
abbrev pub results_among : List (CellName × Slot) → Results
results_among results c = lookup (is_named c) results

-- the results, and how many were read
pub record LookStore : Type 0 where
  pub results : List (CellName × Slot)
  pub looks : ℕ
