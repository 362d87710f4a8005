-- The places of base rows, in one flat list.
use Rattle.std.specs.Prelude.{ℕ, zero, suc, List, [], ◌∷◌, drop, take}
use Rattle.mq_ir.specs.BaseRows.{Places}

-- so many tuples of so many places each, one behind the other
abbrev pub tuples_of : ℕ → ℕ → List ℕ → List Places
tuples_of width zero places = []
tuples_of width (suc count) places = take width places ∷ tuples_of width count (drop width places)

-- tuples of one width
pub record PlaceRows : Type 0 where
  pub width : ℕ
  pub rows : List Places
