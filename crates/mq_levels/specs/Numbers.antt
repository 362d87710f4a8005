-- The number of the round in which a node comes, kept beside each node; none for a node that is not levelled yet.
use Rattle.std.specs.Prelude.{◌≡◌, ℕ, suc, ◌<◌, ◌≤◌, ◌==◌, Bool, true, false, not, List, [], Option, None, Some, is_some, length, slice_index_or}
use Rattle.std.specs.List.{Contains, filter, range_with_len}
use Rattle.mq_levels.specs.Levels.{in_round, levelled, round_of}

abbrev pub Numbers : Type 0
Numbers = List (Option ℕ)

abbrev pub number_of : Numbers → ℕ → Option ℕ
number_of numbers node = slice_index_or numbers node None

abbrev pub has_number : Numbers → ℕ → Bool
has_number numbers node = is_some (number_of numbers node)

abbrev pub is_number : ℕ → Option ℕ → Bool
is_number n None = false
is_number n (Some number) = number == n

-- whether n is the number of a node
abbrev pub is_numbered : Numbers → ℕ → ℕ → Bool
is_numbered numbers n node = is_number n (number_of numbers node)

-- each number is below `count`
pub record NumbersBelow (count : ℕ) (numbers : Numbers) : Type 0 where
  pub below : (node number : ℕ) → number_of numbers node ≡ Some number → number < count

-- these nodes have the number, and the others what they had
pub record AreMarked (marked : List ℕ) (number : ℕ) (before after : Numbers) : Type 0 where
  pub long : length after ≡ length before
  pub named : (node : ℕ) → Contains marked node → number_of after node ≡ Some number
  pub same : (node : ℕ) → (Contains marked node → ⊥) → number_of after node ≡ number_of before node

-- what is known of the number of a node when n rounds are done
abbrev pub IsNumber : List (List ℕ) → ℕ → ℕ → Option ℕ → Type 0
IsNumber reads n node None = levelled reads n node ≡ false
IsNumber reads n node (Some number) = (number < n) × (in_round reads number node ≡ true)

-- n rounds are done, and none of them was empty
pub record AreNumbered (reads : List (List ℕ)) (n : ℕ) (numbers : Numbers) : Type 0 where
  pub long : length numbers ≡ length reads
  pub each : (node : ℕ) → node < length reads → IsNumber reads n node (number_of numbers node)
  pub filled : (round : ℕ) → round < n → 0 < length (round_of reads round)

-- .. and nothing more is levelled in a further round
pub record AllNumbered (reads : List (List ℕ)) (count : ℕ) (numbers : Numbers) : Type 0 where
  pub numbered : AreNumbered reads count numbers
  pub few : count ≤ length reads
  pub last : (node : ℕ) → node < length reads → levelled reads (suc count) node ≡ levelled reads count node

-- the nodes below `count` are dealt out: each to the round of its number, and to the rest where it has none
pub record AreDealt (numbers : Numbers) (count : ℕ) (rounds : List (List ℕ)) (rest : List ℕ) : Type 0 where
  pub each : (n : ℕ) → slice_index_or rounds n [] ≡ filter (is_numbered numbers n) (range_with_len 0 count)
  pub others : rest ≡ filter (λ node. not (has_number numbers node)) (range_with_len 0 count)
