-- What a refused statement leaves, and what it prints.
use Rattle.std.specs.Prelude.{◌≡◌, ◌⊎◌, ℕ, [], ◌∷◌, true, Option, None}
use Rattle.std.specs.List.{list_any}
use Rattle.std.specs.Option.{option_map}
use Rattle.mq_values.specs.declared.faults.Refused.{Refused}
use Rattle.mq_values.specs.declared.faults.Refused.TheVariants as refused
use Rattle.mq_ir.specs.Lines.{RefusalLine, is_refusal}
use Rattle.mq_ir.specs.Statement.{Block, State, with_refusal}
use Rattle.mq_tool.specs.Loads.{FileMap}
use Rattle.mq_tool.specs.Script.{Read, statement_step}

-- a COMMIT was refused, as a statement of its block was
abbrev pub IsBroken : Refused → Type 0
IsBroken e = (first : ℕ) × (e ≡ refused.BlockBroken first)

-- a block notes the line, or it is a refused COMMIT and ends the block
abbrev pub IsNoted : ℕ → Refused → Option Block → Option Block → Type 0
IsNoted line e before after = (after ≡ option_map (with_refusal line) before) ⊎ (IsBroken e × (after ≡ None))

-- tables, views and scenarios are as they were
pub record Unaltered (before after : State) (line : ℕ) (e : Refused) : Type 0 where
  pub tables : after.tables ≡ before.tables
  pub views : after.views ≡ before.views
  pub scenarios : after.scenarios ≡ before.scenarios
  pub block : IsNoted line e before.block after.block

-- A statement that prints a refusal alters no table, no view and no scenario, and prints nothing else.
abbrev pub RefusalAltersNothing : FileMap → State → ℕ × Read → Type 0
RefusalAltersNothing files state r =
    list_any is_refusal (statement_step files state r).1 ≡ true
    → (e : Refused) × ((statement_step files state r).1 ≡ RefusalLine r.0 e ∷ []) × Unaltered state (statement_step files state r).0 r.0 e
