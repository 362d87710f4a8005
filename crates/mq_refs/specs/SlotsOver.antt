-- What a rule makes of a target, over the keys of the cells that are there and those of the input.
use Rattle.std.specs.Prelude.{ℕ, List, if◌then◌else◌}
use Rattle.std.specs.List.{list_all}
use Rattle.mq_ir.specs.declared.query.Rule.{Rule}
use Rattle.mq_ir.specs.declared.query.Slot.{Slot}
use Rattle.mq_ir.specs.declared.query.Slot.TheVariants.{Poisoned}
use Rattle.mq_ir.specs.Keys.{Tuple}
use Rattle.mq_ir.specs.Looks.{looks_of}
use Rattle.mq_ir.specs.Reads.{right_value}
use Rattle.mq_ir.specs.Slots.{Slots, done_value, is_known, slot_of}
use Rattle.mq_ir.specs.Unfolding.{Model}
use Rattle.mq_refs.specs.Sites.{site_with}

-- The slot of a target, as `cell_slot` of mq_ir's specs/Slots has it over a shape: `cell_slot model shape` is this over
-- `shape.cells` and `shape.base`.
abbrev pub cell_slot_over : Model → List Tuple → List Tuple → ℕ → Rule → Tuple → Slots → Slot
cell_slot_over model set base turn rule target slots =
    let site = site_with model turn target set in
    if list_all (is_known slots) (looks_of site rule.right)
    then slot_of (right_value site base (λ c. done_value (slots c)) rule) else Poisoned
