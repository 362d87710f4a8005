-- How far the list of a node was gone through. Lists are gone through from their ends; what is passed has numbers.
use Rattle.std.specs.Prelude.{◌≡◌, ℕ, ◌<◌, true, false, List, [], ◌∷◌, ◌++◌, length, slice_index_or}
use Rattle.std.specs.List.{list_all}
use Rattle.mq_levels.specs.Levels.{reads_of}
use Rattle.mq_levels.specs.Numbers.{Numbers, has_number}

-- what is left of a list is a front of it, and each read behind that has a number
pub record IsLeft (numbers : Numbers) (list left : List ℕ) : Type 0 where
  pub behind : List ℕ
  pub is : list ≡ left ++ behind
  pub passed : list_all (has_number numbers) behind ≡ true

-- what is left ends with `read`, the last one that has no number
pub record EndsOpen (numbers : Numbers) (list left : List ℕ) (read : ℕ) : Type 0 where
  pub is_left : IsLeft numbers list left
  pub before : List ℕ
  pub ends : left ≡ before ++ read ∷ []
  pub is_open : has_number numbers read ≡ false

-- a place in the list of a node, over the places of any kind of reads
pub record IsPlaced {P : Type 0} (reads : List (List ℕ)) (is_place : ℕ → P → Type 0) (left : ℕ → P → List ℕ)
    (numbers : Numbers) (node : ℕ) (place : P) : Type 0 where
  pub is : is_place node place
  pub is_left : IsLeft numbers (reads_of reads node) (left node place)

-- .. and a place for each node
pub record ArePlaced {P : Type 0} (reads : List (List ℕ)) (is_place : ℕ → P → Type 0) (left : ℕ → P → List ℕ)
    (numbers : Numbers) (places : List P) : Type 0 where
  pub long : length places ≡ length reads
  pub each : (node : ℕ) (other : P) → node < length reads →
      IsPlaced reads is_place left numbers node (slice_index_or places node other)
