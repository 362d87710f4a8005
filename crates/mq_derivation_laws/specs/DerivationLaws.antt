-- What holds of derivations, and of steps that are accepted.
use Rattle.std.specs.Prelude.{◌≡◌, List, [], Ok}
use Rattle.std.specs.List.{All}
use Rattle.mq_ir.specs.declared.query.CellName.{CellName}
use Rattle.mq_ir.specs.declared.query.DerivationStep.{DerivationStep}
use Rattle.mq_ir.specs.declared.query.PartInput.{PartInput}
use Rattle.mq_ir.specs.declared.query.PartShape.{PartShape}
use Rattle.mq_ir.specs.Automatic.{shape_found, slots_in}
use Rattle.mq_ir.specs.Derivations.{AreAccepted, derivation, is_among_steps, is_source}
use Rattle.mq_ir.specs.Partitions.{Cells, Tuple}
use Rattle.mq_ir.specs.Shape.{shape_over}
use Rattle.mq_ir.specs.Unfolding.{Model}

-- The derivation of a measure is accepted over the shape that is found of its partition.
abbrev pub DerivationIsAccepted : Model → PartInput → PartShape → CellName → Type 0
DerivationIsAccepted model p shape target =
    shape_found model p ≡ Ok shape → AreAccepted model shape p.cells [] (derivation model shape p.cells target)

-- It has a step of each source, and of nothing else.
abbrev pub DerivationHasSources : Model → PartShape → Cells → CellName → CellName → Type 0
DerivationHasSources model shape input target c =
    is_among_steps (derivation model shape input target) c ≡ is_source model shape target c

-- Where steps are accepted over a shape that the rules make, at each stands the slot of its measure in the end. There may be
-- a cycle in the shape: no step that is accepted is on it.
abbrev pub StepsHaveTheirSlots : Model → List Tuple → PartShape → Cells → List DerivationStep → Type 0
StepsHaveTheirSlots model keys shape input steps =
    shape_over model keys ≡ Ok shape → AreAccepted model shape input [] steps
    → All (λ s. s.slot ≡ slots_in model shape input s.name) steps
