-- The lines of a derivation.
use Rattle.std.specs.Prelude.{ℕ, List, [], ◌∷◌, ◌++◌, length, map, slice_index_or}
use Rattle.mq_ir.specs.declared.query.Derivation.{Derivation}
use Rattle.mq_ir.specs.declared.query.DerivationStep.{DerivationStep}
use Rattle.mq_ir.specs.Lines.{Line, StepCount, StepLine}

-- a step's line, under the name that its measure has among these
abbrev pub step_line : List (List ℕ) → DerivationStep → Line
step_line names step = StepLine (slice_index_or names step.name.measure []) step

-- a step a line, and then their number
abbrev pub derivation_lines : List (List ℕ) → Derivation → List Line
derivation_lines names d = map (step_line names) d.steps ++ StepCount (length d.steps) ∷ []
