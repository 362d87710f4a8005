-- What is known of the steps so far, and what is asked of the next one.
use Rattle.std.specs.Prelude.{◌≡◌, Bool, true, List, Some, is_some, if◌then◌else◌}
use Rattle.std.specs.List.{filter_map, find, list_all}
use Rattle.std.specs.Option.{option_map}
use Rattle.mq_ir.specs.declared.query.CellName.{CellName}
use Rattle.mq_ir.specs.declared.query.DerivationStep.{DerivationStep}
use Rattle.mq_ir.specs.declared.query.Look.{Look}
use Rattle.mq_ir.specs.declared.query.Look.TheVariants.{Measure, Presence}
use Rattle.mq_ir.specs.declared.query.PartShape.{PartShape}
use Rattle.mq_ir.specs.declared.query.Rule.{Rule}
use Rattle.mq_ir.specs.Derivations.{is_among_steps, is_same_measure, measure_of, slot_among}
use Rattle.mq_ir.specs.Looks.{looks_of}
use Rattle.mq_ir.specs.Slots.{cell_slot, site_in}
use Rattle.mq_ir.specs.Unfolding.{Model}
use Rattle.mq_cells.specs.Stores.{Results}

-- at the measure of each earlier step stands the slot of the last step that is of it, and nothing at other measures
pub record AreTold (earlier : List DerivationStep) (results : Results) : Type 0 where
  pub stand : (c : CellName) → results c ≡ option_map (λ s. s.slot) (find (λ s. is_same_measure c s.name) earlier)

-- a look is of a measure that is told, or of a presence
abbrev pub look_told : Results → Look → Bool
look_told results (Measure c) = is_some (results c)
look_told results (Presence key) = true

-- a step is what a rule makes of the slots of earlier steps, among which is all that the rule looks at
abbrev pub IsMade : Model → PartShape → List DerivationStep → DerivationStep → Rule → Type 0
IsMade model shape earlier step rule =
    (list_all (is_among_steps earlier) (filter_map measure_of (looks_of (site_in model shape 0 step.name.key) rule.right)) ≡ true)
    × (step.slot ≡ cell_slot model shape 0 rule step.name.key (λ c. slot_among earlier (Measure c)))

-- a step more is told
abbrev pub Tells : DerivationStep → Results → Results → Type 0
Tells step before after = (c : CellName) → after c ≡ (if is_same_measure c step.name then Some step.slot else before c)
