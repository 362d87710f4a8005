-- The lines of a comparison, from what is found under its scenarios.
use Rattle.std.specs.Prelude.{ℕ, ◌∷◌, List}
use Rattle.std.specs.List.{flat_map, zip}
use Rattle.mq_ir.specs.declared.query.Compared.{Compared}
use Rattle.mq_ir.specs.Lines.{Line, ScenarioLine}
use Rattle.mq_ir.specs.Scenarios.{compared_lines}

-- a scenario's line, and what is found under it
abbrev pub lines_under : List ℕ × Compared → List Line
lines_under (name, found) = ScenarioLine name ∷ compared_lines found

-- scenario by scenario
abbrev pub all_compared : List (List ℕ) → List Compared → List Line
all_compared names found = flat_map lines_under (zip names found)
