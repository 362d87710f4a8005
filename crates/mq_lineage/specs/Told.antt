-- What a derivation tells of a measure.
use Rattle.std.specs.Prelude.{ℕ, Bool, List, map, Option, None}
use Rattle.std.specs.List.{filter}
use Rattle.mq_ir.specs.declared.query.CellName.{CellName}
use Rattle.mq_ir.specs.declared.query.DerivationStep.{DerivationStep}
use Rattle.mq_ir.specs.declared.query.Look.TheVariants.{Measure}
use Rattle.mq_ir.specs.declared.query.PartShape.{PartShape}
use Rattle.mq_ir.specs.Automatic.{rule_at}
use Rattle.mq_ir.specs.Slots.{Slots}

-- a measure with the number of its rule, where it has one
abbrev pub Told : Type 0
Told = CellName × Option ℕ

-- one that no rule assigns
abbrev pub told_bare : CellName → Told
told_bare c = (c, None)

abbrev pub told_with : PartShape → CellName → Told
told_with shape c = (c, rule_at shape (Measure c))

-- those of these measures that a set has, each with its rule
abbrev pub told_among : PartShape → (CellName → Bool) → List CellName → List Told
told_among shape held names = map (told_with shape) (filter held names)

-- .. and the step of one, with these slots
abbrev pub step_told : Slots → Told → DerivationStep
step_told slots told = record { name = told.0; rule = told.1; slot = slots told.0 }
