-- Where the rows stand that a condition may choose.
use Rattle.std.specs.Prelude.{◌≡◌, ℕ, ◌+◌, ◌<◌, ◌≤◌, ◌⊎◌, List, length, false, true, Option, Ok, slice_index_or}
use Rattle.mq_ir.specs.declared.expression.Expr.{Expr}
use Rattle.mq_ir.specs.declared.statement.Schema.{Schema}
use Rattle.mq_ir.specs.Changes.{is_chosen, row_key}
use Rattle.mq_ir.specs.Keys.{Tuple, is_same}
use Rattle.mq_tables.specs.declared.places.Places.{Places}
use Rattle.mq_tables.specs.Groups.{groups_of}

-- these are places of so many rows
pub record AreWithin (places : Places) (count : ℕ) : Type 0 where
  pub ascend : places.from ≤ places.to
  pub end : places.to ≤ count

abbrev pub IsOutside : Places → ℕ → Type 0
IsOutside places at = (at < places.from) ⊎ (places.to ≤ at)

-- a row of another key than this one, but of the same groups
pub record IsOther (schema : Schema) (key row : Tuple) : Type 0 where
  pub alike : groups_of (row_key schema row) ≡ groups_of key
  pub other : is_same (row_key schema row) key ≡ false

-- all rows outside of the places are such
abbrev pub OthersOutside : Schema → List Tuple → Tuple → Places → Type 0
OthersOutside schema rows key places = (at : ℕ) (row : Tuple) → at < length rows → row ≡ slice_index_or rows at row → IsOutside places at → IsOther schema key row

-- the row at this place has this key
pub record HasKeyAt (schema : Schema) (rows : List Tuple) (key : Tuple) (place : ℕ) : Type 0 where
  pub there : place < length rows
  pub is : (row : Tuple) → row ≡ slice_index_or rows place row → is_same (row_key schema row) key ≡ true

-- the key of the first row is of the groups of this one
abbrev pub FirstIsLike : Schema → List Tuple → Tuple → Type 0
FirstIsLike schema rows key = (row : Tuple) → 0 < length rows → row ≡ slice_index_or rows 0 row → groups_of (row_key schema row) ≡ groups_of key

-- these are places of the rows, and all rows outside are such
pub record AreTold (schema : Schema) (rows : List Tuple) (key : Tuple) (places : Places) : Type 0 where
  pub others : OthersOutside schema rows key places
  pub within : AreWithin places (length rows)

-- these are one place, at which the row has this key
pub record IsPlaceWith (schema : Schema) (rows : List Tuple) (key : Tuple) (places : Places) : Type 0 where
  pub alone : places.to ≡ places.from + 1
  pub has : HasKeyAt schema rows key places.from

-- no row outside of the places is visited as true, nor does a visit there fault
abbrev pub PassesOutside : Option Expr → List Tuple → Places → Type 0
PassesOutside filter rows places = (at : ℕ) (row : Tuple) → at < length rows → row ≡ slice_index_or rows at row → IsOutside places at → is_chosen filter (at + 1, row) ≡ Ok false
