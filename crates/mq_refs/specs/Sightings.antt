-- What was seen of the measures that a right side looks at.
use Rattle.std.specs.Prelude.{◌≡◌, ℕ, suc, Bool, false, ◌||◌, List, [], ◌∷◌, Option, Some, None, if◌then◌else◌}
use Rattle.std.specs.List.{All, list_all}
use Rattle.mq_values.specs.declared.value.Value.TheVariants.{Null}
use Rattle.mq_ir.specs.declared.query.CellName.{CellName}
use Rattle.mq_ir.specs.declared.query.Look.{Look}
use Rattle.mq_ir.specs.declared.query.Look.TheVariants.{Measure, Presence}
use Rattle.mq_ir.specs.Reads.{Measures}
use Rattle.mq_ir.specs.Slots.{Slots, done_value, is_known}
use Rattle.mq_cells.specs.Stores.{is_named}
use Rattle.mq_refs.specs.declared.sighting.Sighting.{Sighting}

-- the value that was seen first at a measure; null where none was
abbrev pub value_seen : List Sighting → Measures
value_seen [] c = Null
value_seen (s ∷ seen) c = if is_named s.name c then s.value else value_seen seen c

-- each sighting of a measure saw the same
abbrev pub AreSteady : List Sighting → Type 0
AreSteady seen = All (λ s. value_seen seen s.name ≡ s.value) seen

-- what there is to see at these looks
abbrev pub seen_at : Slots → List Look → List Sighting
seen_at slots [] = []
seen_at slots (Measure c ∷ looks) = record { name = c; value = done_value (slots c) } ∷ seen_at slots looks
seen_at slots (Presence key ∷ looks) = seen_at slots looks

-- the same, where each measure among the looks is done
abbrev pub seen_if_known : Slots → List Look → Option (List Sighting)
seen_if_known slots looks = if list_all (is_known slots) looks then Some (seen_at slots looks) else None

-- the number of measures among these looks
abbrev pub measures_in : List Look → ℕ
measures_in [] = 0
measures_in (Measure c ∷ looks) = suc (measures_in looks)
measures_in (Presence key ∷ looks) = measures_in looks

-- whether these looks name a measure
abbrev pub is_looked_at : List Look → CellName → Bool
is_looked_at [] c = false
is_looked_at (Measure d ∷ looks) c = is_named d c || is_looked_at looks c
is_looked_at (Presence key ∷ looks) c = is_looked_at looks c
