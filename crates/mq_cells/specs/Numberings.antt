-- The numbers of a partition's cells: a key has one from when it comes.
use Rattle.std.specs.Prelude.{◌≡◌, ℕ, ◌<◌, ◌≤◌, ◌⊎◌, true, List, Option, Some, None, length, slice_get}
use Rattle.std.specs.Option.{option_and_then}
use Rattle.mq_dim_index.specs.Places.{place_of}
use Rattle.mq_ir.specs.Keys.{Tuple, is_same}

-- keys, and beside each the number of its cell
pub record Numbering : Type 0 where
  pub keys : List Tuple
  pub numbers : List ℕ

-- the number of the cell at this tuple, where there is one
abbrev pub number_of : Numbering → Tuple → Option ℕ
number_of cells key = option_and_then (slice_get cells.numbers) (place_of cells.keys key)

-- each key has a number of its own, below how many there are
pub record AreNumbered (cells : Numbering) : Type 0 where
  pub long : length cells.numbers ≡ length cells.keys
  pub below : (key : Tuple) (n : ℕ) → number_of cells key ≡ Some n → n < length cells.numbers
  pub once : (a b : Tuple) (n : ℕ) → number_of cells a ≡ Some n → number_of cells b ≡ Some n → is_same a b ≡ true

-- the cell at this tuple came, with a number that none had before
abbrev pub Came : Numbering → Numbering → Tuple → Type 0
Came before after key = (number_of before key ≡ None) × ((n : ℕ) × (number_of after key ≡ Some n) × (length before.numbers ≤ n))

-- cells may have come; the others have the numbers that they had
pub record Grows (before after : Numbering) : Type 0 where
  pub further : length before.numbers ≤ length after.numbers
  pub each : (key : Tuple) → (number_of after key ≡ number_of before key) ⊎ Came before after key
