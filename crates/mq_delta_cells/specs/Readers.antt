-- Which assignments look at which measures, by their places, and which places are due for a visit.
use Rattle.std.specs.Prelude.{◌≡◌, ℕ, zero, suc, ◌==◌, Bool, true, false, ◌||◌, List, [], ◌∷◌, length, Option, Some, None, slice_get, slice_index_or}
use Rattle.std.specs.Option.{option_map_or}
use Rattle.mq_ir.specs.declared.query.CellName.{CellName}
use Rattle.mq_ir.specs.declared.query.Look.{Look}
use Rattle.mq_ir.specs.declared.query.Look.TheVariants.{Measure, Presence}
use Rattle.mq_ir.specs.Keys.{Tuple}
use Rattle.mq_cells.specs.Stores.{is_named}
use Rattle.mq_delta_cells.specs.declared.reader_table.Link.{Link}
use Rattle.mq_delta_cells.specs.Tables.{Table, number_by}

-- whether these looks name a measure
abbrev pub is_looked_at : List Look → CellName → Bool
is_looked_at [] c = false
is_looked_at (Measure d ∷ looks) c = is_named d c || is_looked_at looks c
is_looked_at (Presence key ∷ looks) c = is_looked_at looks c

-- Links of places, and of each measure, by the places of cells, the number of its last link. A link has the place of an assignment
-- that looks at the measure, and the number of the one before it.
pub record Readers : Type 0 where
  pub last : Table
  pub links : List Link

-- a place is that of one of the next n links, from the one with this number on
abbrev pub is_linked : List Link → ℕ → Option ℕ → ℕ → Bool
is_linked links zero at place = false
is_linked links (suc n) None place = false
is_linked links (suc n) (Some at) place =
    option_map_or (λ (link : Link). (link.place == place) || is_linked links n link.earlier place) (slice_get links at) false

abbrev pub is_reader : List Tuple → Readers → CellName → ℕ → Bool
is_reader keys readers c place = is_linked readers.links (length readers.links) (number_by keys readers.last c) place

-- the readers after are those before, or more
abbrev pub HasMore : List Tuple → Readers → Readers → Type 0
HasMore keys before after =
    (c : CellName) (place : ℕ) → is_reader keys before c place ≡ true → is_reader keys after c place ≡ true

-- who may look at a measure: its readers, or, where these are not gathered, all
abbrev pub may_look : List Tuple → Option Readers → CellName → ℕ → Bool
may_look keys None c place = true
may_look keys (Some readers) c place = is_reader keys readers c place

-- each list of looks that names a measure is known by its place
abbrev pub HasReadersOf : List Tuple → List (List Look) → Option Readers → Type 0
HasReadersOf keys looks readers =
    (c : CellName) (place : ℕ) → is_looked_at (slice_index_or looks place []) c ≡ true → may_look keys readers c place ≡ true

-- a place is due, and so is each behind the end of the marks
abbrev pub is_due : List Bool → ℕ → Bool
is_due due place = slice_index_or due place true

-- what is not due by the marks after was not by those before, and does not look at this measure
abbrev pub HasMarked : List Tuple → Option Readers → CellName → List Bool → List Bool → Type 0
HasMarked keys readers c before after =
    (place : ℕ) → is_due after place ≡ false → (is_due before place ≡ false) × (may_look keys readers c place ≡ false)
