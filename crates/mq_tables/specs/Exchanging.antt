-- Keys of rows that are exchanged for those of rows that come to their places.
use Rattle.std.specs.Prelude.{◌≡◌, ℕ, List, Bool, false, ◌&&◌, not, length, map, None}
use Rattle.std.specs.List.{zip}
use Rattle.mq_ir.specs.declared.statement.Schema.{Schema}
use Rattle.mq_ir.specs.Changes.{Visited, first_repeated, row_key, visited_as}
use Rattle.mq_ir.specs.Keys.{Tuple, is_among}
use Rattle.mq_tables.specs.InPlace.{put_at}
use Rattle.mq_tables.specs.KeyOrder.{HoldsBoth, Loses}
use Rattle.mq_tables.specs.Visits.{flags_of, replaced, taken}

-- the keys of rows that stand beside their places
abbrev pub keys_put : Schema → List (ℕ × Tuple) → List Tuple
keys_put schema puts = map (λ put. row_key schema put.1) puts

-- Some rows were visited as true: those come for the ones that were at their places, and the others stay.
pub record ComesFor (rows : List Tuple) (puts were : List (ℕ × Tuple)) : Type 0 where
  pub visited : List Visited
  pub many : length visited ≡ length rows
  pub puts_are : puts ≡ replaced visited
  pub were_are : were ≡ taken rows visited
  pub put : put_at puts rows ≡ map (λ row. row.0) visited
  pub stay : visited_as false (zip rows (flags_of visited)) ≡ visited_as false visited

-- whether a key is one of these that is not gone
abbrev pub is_left : List Tuple → List Tuple → Tuple → Bool
is_left all gone key = is_among all key && not (is_among gone key)

-- keys that repeat none before them, and none of those that are left where the old ones are gone
pub record AddsBeside (all old keys new : List Tuple) : Type 0 where
  pub apart : (left : List Tuple) → Loses all old left → first_repeated left keys ≡ None
  pub among : (key : Tuple) → is_among new key ≡ is_among keys key

-- the old keys are gone, and the new ones are there, which repeat none of those that are left, nor each other
pub record Exchanged (all old keys after : List Tuple) : Type 0 where
  pub left : List Tuple
  pub lost : Loses all old left
  pub apart : first_repeated left keys ≡ None
  pub both : HoldsBoth keys left after

-- the keys of rows are exchanged for those of rows that come to their places
abbrev pub ComeForOthers : Schema → List (ℕ × Tuple) → List (ℕ × Tuple) → List Tuple → List Tuple → Type 0
ComeForOthers schema were puts all after = Exchanged all (keys_put schema were) (keys_put schema puts) after
