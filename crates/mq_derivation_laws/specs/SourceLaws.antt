-- What holds of the sources of a measure.
use Rattle.std.specs.Prelude.{◌≡◌, Bool, true}
use Rattle.std.specs.List.{list_all}
use Rattle.mq_ir.specs.declared.query.CellName.{CellName}
use Rattle.mq_ir.specs.declared.query.PartShape.{PartShape}
use Rattle.mq_ir.specs.Derivations.{is_source, measures_looked_at}
use Rattle.mq_ir.specs.RoundLaws.{Within}
use Rattle.mq_ir.specs.Unfolding.{Model}

-- A set of measures has the target and, with each measure, all measures that it looks at. What no rule assigns looks at none.
abbrev pub HoldsSources : Model → PartShape → CellName → (CellName → Bool) → Type 0
HoldsSources model shape target held =
    (held target ≡ true) × ((c : CellName) → held c ≡ true → list_all held (measures_looked_at model shape c) ≡ true)

-- The sources are such a set, and they are within each other one.
abbrev pub AreLeastSources : Model → PartShape → CellName → Type 0
AreLeastSources model shape target =
    HoldsSources model shape target (is_source model shape target)
    × ((held : CellName → Bool) → HoldsSources model shape target held → Within (is_source model shape target) held)
