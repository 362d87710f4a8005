-- Lines and their text.
use Rattle.std.proofs.Common.{◌≡◌, ℕ, List, [], ◌∷◌, ◌++◌, false, map, length, refl}
use Rattle.std.specs.List.{list_any}
use Rattle.std.proofs.lemmas.Grind.{flat_map-append}
use Rattle.mq_ir.specs.declared.query.DerivationStep.{DerivationStep}
use Rattle.mq_ir.specs.declared.query.ModelPart.{ModelPart}
use Rattle.mq_ir.specs.Explaining.{step_line}
use Rattle.mq_ir.specs.Lines.{Line, RowLine, RowCount, StepCount, is_flaw, line_text, text_of}
use Rattle.mq_ir.specs.Partitions.{Tuple}

no_flaw : (rows : List Tuple) (n : ℕ) → list_any is_flaw (map RowLine rows ++ RowCount n ∷ []) ≡ false
no_flaw [] n = refl
no_flaw (r ∷ rs) n = no_flaw rs n

-- rows are no errors and no faults
pub no_flaw_line : (rows : List Tuple) → list_any is_flaw (map RowLine rows ++ RowCount (length rows) ∷ []) ≡ false
no_flaw_line rows = no_flaw rows (length rows)

pub text_of-append : (xs ys : List Line) → text_of (xs ++ ys) ≡ text_of xs ++ text_of ys
text_of-append xs ys = flat_map-append line_text xs ys

-- the steps of a derivation are none either
pub no_flaw_step : (part : ModelPart) (steps : List DerivationStep) (n : ℕ) → list_any is_flaw (map (step_line part) steps ++ StepCount n ∷ []) ≡ false
no_flaw_step part [] n = refl
no_flaw_step part (s ∷ steps) n = no_flaw_step part steps n
