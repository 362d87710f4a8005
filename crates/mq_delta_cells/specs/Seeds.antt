-- Where a change begins, as the two shapes and the names of what moved tell it. No value of a cell is in it.
use Rattle.std.specs.Prelude.{◌≡◌, ℕ, ◌==◌, Bool, true, false, ◌&&◌, ◌||◌, not, List, Option, Some, None, IfSome, is_some}
use Rattle.std.specs.List.{list_any}
use Rattle.mq_ir.specs.declared.query.CellName.{CellName}
use Rattle.mq_ir.specs.declared.query.Look.{Look}
use Rattle.mq_ir.specs.declared.query.Look.TheVariants.{Measure, Presence}
use Rattle.mq_ir.specs.declared.query.PartShape.{PartShape}
use Rattle.mq_ir.specs.Affected.{are_same_looks, is_in_one, looks_or_none}
use Rattle.mq_ir.specs.Automatic.{node_looks, rule_at}
use Rattle.mq_ir.specs.Unfolding.{Model}
use Rattle.mq_ir.specs.Keys.{Tuple, is_among, is_same}
use Rattle.mq_ir.specs.Shape.{Assignment}
use Rattle.mq_cells.specs.Stores.{is_named, name_assigned}
use Rattle.mq_delta_cells.specs.declared.seeds.Differences.{Differences}
use Rattle.mq_delta_cells.specs.declared.seeds.Seeds.{Seeds}
use Rattle.mq_delta_cells.specs.Marks.{is_marked}
use Rattle.mq_delta_cells.specs.Tables.{HasRulesOf, Table, is_in_table}

-- a measure is among those that moved
abbrev pub is_moved : List CellName → CellName → Bool
is_moved moved c = list_any (λ d. is_named c d) moved

-- what one rule assigns in both shapes looks elsewhere
abbrev pub looks_elsewhere : Model → PartShape → PartShape → CellName → Bool
looks_elsewhere model old new c =
    not (are_same_looks (looks_or_none (node_looks model old (Measure c))) (looks_or_none (node_looks model new (Measure c))))

-- a measure by the rules that assign it in the old and in the new shape
abbrev pub told_by : Model → PartShape → PartShape → List CellName → CellName → Option ℕ → Option ℕ → Bool
told_by model old new moved c None None = is_in_one old.base new.base c.key || is_moved moved c
told_by model old new moved c None (Some b) = true
told_by model old new moved c (Some a) None = true
told_by model old new moved c (Some a) (Some b) = not (a == b) || looks_elsewhere model old new c

-- where a change begins
abbrev pub is_told : Model → PartShape → PartShape → List CellName → Look → Bool
is_told model old new moved (Presence key) = is_in_one old.base new.base key
is_told model old new moved (Measure c) =
    is_in_one old.cells new.cells c.key || told_by model old new moved c (rule_at old (Measure c)) (rule_at new (Measure c))

-- The same of what no rule of the new shape assigns, for which no looks are compared. Of what one assigns it tells less.
abbrev pub outside_by : PartShape → PartShape → List CellName → CellName → Option ℕ → Option ℕ → Bool
outside_by old new moved c was (Some b) = false
outside_by old new moved c was None = is_some was || (is_in_one old.base new.base c.key || is_moved moved c)

abbrev pub is_told_outside : PartShape → PartShape → List CellName → Look → Bool
is_told_outside old new moved (Presence key) = is_in_one old.base new.base key
is_told_outside old new moved (Measure c) =
    is_in_one old.cells new.cells c.key || outside_by old new moved c (rule_at old (Measure c)) (rule_at new (Measure c))

-- keys in one of two lists alone, as a set has them
abbrev pub HasOddKeysOf : List Tuple → List Tuple → List Tuple → Type 0
HasOddKeysOf a b set = (key : Tuple) → is_among set key ≡ is_in_one a b key

-- this key is one that others do not have
abbrev pub is_missing_at : List Tuple → Tuple → Tuple → Bool
is_missing_at others key k = is_same key k && not (is_among others key)

-- a key of these that others do not have
abbrev pub is_missing : List Tuple → List Tuple → Tuple → Bool
is_missing keys others key = list_any (is_missing_at others key) keys

-- how two shapes differ: the cells that one of them has alone, the keys that one input has alone, the old cells as an index,
-- where they ascend, and the old rules, by the places of the keys of the new one
pub record AreDifferences (old new : PartShape) (keys : List Tuple) (d : Differences) : Type 0 where
  pub cells : HasOddKeysOf old.cells new.cells d.cells
  pub base : HasOddKeysOf old.base new.base d.base
  pub were : IfSome d.were (λ were. were ≡ old.cells)
  pub rules : HasRulesOf old keys d.rules

-- the shapes differ in this way, or in nothing
abbrev pub Differ : PartShape → PartShape → List Tuple → Option Differences → Type 0
Differ old new keys None = old ≡ new
Differ old new keys (Some d) = AreDifferences old new keys d

-- what is kept of a change to a shape with these keys
pub record AreSeeds (new : PartShape) (keys : List Tuple) (seeds : Seeds) : Type 0 where
  pub moved : (c : CellName) → is_marked keys seeds.names c ≡ is_moved seeds.moved.now c
  pub differ : Differ seeds.old.now new keys seeds.differ

-- what this assigns, where rules, by the places of keys, do not, is this measure
abbrev pub is_gone_at : List Tuple → Table → CellName → Assignment → Bool
is_gone_at keys rules c a = is_named (name_assigned a) c && not (is_in_table keys rules (name_assigned a))

-- a measure that these assign and rules do not
abbrev pub is_gone : List Assignment → List Tuple → Table → CellName → Bool
is_gone assigned keys rules c = list_any (is_gone_at keys rules c) assigned

-- a measure that a rule of the old shape assigns, and none of the new one
abbrev pub has_vanished : PartShape → PartShape → CellName → Bool
has_vanished old new c = is_some (rule_at old (Measure c)) && not (is_some (rule_at new (Measure c)))
