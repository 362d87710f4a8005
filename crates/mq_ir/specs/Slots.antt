-- What stands at a measure of a cell in automatic order, and what a rule makes of what it looks at.
use Rattle.std.specs.Prelude.{ℕ, Bool, true, false, if◌then◌else◌, Ok, Err}
use Rattle.std.specs.List.{list_all}
use Rattle.mq_values.specs.declared.value.Value.{Value}
use Rattle.mq_values.specs.declared.value.Value.TheVariants.{Null}
use Rattle.mq_ir.specs.declared.query.CellName.{CellName}
use Rattle.mq_ir.specs.declared.query.Look.{Look}
use Rattle.mq_ir.specs.declared.query.Look.TheVariants.{Measure, Presence}
use Rattle.mq_ir.specs.declared.query.PartShape.{PartShape}
use Rattle.mq_ir.specs.declared.query.Rule.{Rule}
use Rattle.mq_ir.specs.declared.query.Slot.{Slot}
use Rattle.mq_ir.specs.declared.query.Slot.TheVariants.{Done, Faulted, Poisoned}
use Rattle.mq_ir.specs.Expression.{Outcome}
use Rattle.mq_ir.specs.Looks.{looks_of}
use Rattle.mq_ir.specs.Partitions.{Tuple}
use Rattle.mq_ir.specs.Reads.{Site, right_value}
use Rattle.mq_ir.specs.Unfolding.{Model}

abbrev pub is_done : Slot → Bool
is_done (Done v) = true
is_done (Faulted fault) = false
is_done Poisoned = false

-- the value that is done, else null
abbrev pub done_value : Slot → Value
done_value (Done v) = v
done_value (Faulted fault) = Null
done_value Poisoned = Null

abbrev pub slot_of : Outcome → Slot
slot_of (Ok v) = Done v
slot_of (Err fault) = Faulted fault

-- the slots of cell measures
abbrev pub Slots : Type 0
Slots = CellName → Slot

-- presence is always known
abbrev pub is_known : Slots → Look → Bool
is_known slots (Measure c) = is_done (slots c)
is_known slots (Presence key) = true

abbrev pub site_in : Model → PartShape → ℕ → Tuple → Site
site_in model shape turn target = record { model = model; target = target; turn = turn; set = shape.cells }

-- what a rule makes of a target: poisoned where a measure that it looks at is not done, else its value or its fault
abbrev pub cell_slot : Model → PartShape → ℕ → Rule → Tuple → Slots → Slot
cell_slot model shape turn rule target slots =
    let site = site_in model shape turn target in
    if list_all (is_known slots) (looks_of site rule.right)
    then slot_of (right_value site shape.base (λ c. done_value (slots c)) rule) else Poisoned
