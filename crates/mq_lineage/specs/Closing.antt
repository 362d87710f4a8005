-- A set of measures that takes in what its measures look at.
use Rattle.std.specs.Prelude.{◌≡◌, Bool, ◌&&◌, ◌||◌, List, [], ◌∷◌}
use Rattle.std.specs.List.{list_any}
use Rattle.mq_ir.specs.declared.query.CellName.{CellName}
use Rattle.mq_ir.specs.declared.query.PartShape.{PartShape}
use Rattle.mq_ir.specs.Derivations.{is_same_measure, is_source, measures_looked_at}
use Rattle.mq_ir.specs.Unfolding.{Model}
use Rattle.mq_cells.specs.Stores.{cell_name}
use Rattle.mq_lineage.specs.Nodes.{Node}

-- a measure looks at another one
abbrev pub looks_at : Model → PartShape → CellName → CellName → Bool
looks_at model shape c m = list_any (is_same_measure m) (measures_looked_at model shape c)

-- a set with all that a measure looks at, where it has the measure
abbrev pub with_looks : Model → PartShape → (CellName → Bool) → CellName → CellName → Bool
with_looks model shape held c m = held m || (held c && looks_at model shape c m)

-- .. for each of these measures, from the last to the first
abbrev pub with_all_looks : Model → PartShape → (CellName → Bool) → List CellName → CellName → Bool
with_all_looks model shape held [] = held
with_all_looks model shape held (c ∷ names) = with_looks model shape (with_all_looks model shape held names) c

-- the set after has what the one before has with all that these measures look at, where it has them
abbrev pub Closes : Model → PartShape → List CellName → (CellName → Bool) → (CellName → Bool) → Type 0
Closes model shape names before after = (c : CellName) → after c ≡ with_all_looks model shape before names c

-- the measures after are those before and these
abbrev pub HasMore : List CellName → (CellName → Bool) → (CellName → Bool) → Type 0
HasMore names before after = (c : CellName) → after c ≡ (list_any (is_same_measure c) names || before c)

-- .. and this one
abbrev pub HasOneMore : CellName → (CellName → Bool) → (CellName → Bool) → Type 0
HasOneMore name before after = (c : CellName) → after c ≡ (is_same_measure c name || before c)

-- a set has exactly the sources of a measure
abbrev pub HasSourcesOf : Model → PartShape → CellName → (CellName → Bool) → Type 0
HasSourcesOf model shape target held = (c : CellName) → held c ≡ is_source model shape target c

-- the measures that a map has, in its order
abbrev pub name_of : Node → CellName
name_of node = cell_name node.0 node.1
