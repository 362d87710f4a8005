-- A set of measures: the assigned ones by flags at their places, the others by a map.
use Rattle.std.specs.Prelude.{◌≡◌, ℕ, ◌<◌, Bool, false, List, Option, Some, length, slice_index_or}
use Rattle.std.specs.Option.{option_map_or}
use Rattle.mq_ir.specs.declared.query.CellName.{CellName}
use Rattle.mq_auto_shape.specs.Numbers.{Numbered, number_at}
use Rattle.mq_lineage.specs.Nodes.{Nodes, is_in}

-- the places of the assigned measures, a flag for each place, and the other measures
pub record HeldMeasures : Type 0 where
  pub places : Numbered
  pub derived : List Bool
  pub given : Nodes

-- the place of a measure, where it has one
abbrev pub place_in : Numbered → CellName → Option ℕ
place_in places c = number_at places c.key c.measure

-- the set has a measure: where it has a place the flag there is set, else it is in the map
abbrev pub is_held : HeldMeasures → CellName → Bool
is_held set c = option_map_or (λ place. slice_index_or set.derived place false) (place_in set.places c) (is_in set.given c)

-- each place is one of so many, and that of one measure
pub record AreOwnPlaces (places : Numbered) (count : ℕ) : Type 0 where
  pub below : (c : CellName) (place : ℕ) → place_in places c ≡ Some place → place < count
  pub own : (c d : CellName) (place : ℕ) → place_in places c ≡ Some place → place_in places d ≡ Some place → c ≡ d

-- there is a flag for each place, and no measure that has a place is in the map
pub record AreApart (places : Numbered) (derived : List Bool) (given : Nodes) : Type 0 where
  pub own : AreOwnPlaces places (length derived)
  pub apart : (c : CellName) (place : ℕ) → place_in places c ≡ Some place → is_in given c ≡ false
