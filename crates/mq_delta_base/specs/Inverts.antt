-- Old places of new rows, the other way round.
use Rattle.std.specs.Prelude.{◌≡◌, ℕ, ◌+◌, ◌<◌, ◌≤◌, List, [], ◌∷◌, ◌++◌, length, Option, Some, None, slice_index_or}
use Rattle.mq_delta_base.specs.Sets.{In}

-- Of the first n new rows `places` has for each old place the new one, and `touched` those that have no old place.
pub record Inverts (origins : List (Option ℕ)) (n : ℕ) (places : List (Option ℕ)) (touched : List ℕ) : Type 0 where
  pub to_from : (o p : ℕ) → slice_index_or places o None ≡ Some p → (p < n) × (slice_index_or origins p None ≡ Some o)
  pub from_to : (o p : ℕ) → p < n → slice_index_or origins p None ≡ Some o → slice_index_or places o None ≡ Some p
  pub rises : (a b to until : ℕ) → a < b → slice_index_or places a None ≡ Some to → slice_index_or places b None ≡ Some until → to < until
  pub none : (p : ℕ) → In p touched → (p < n) × (slice_index_or origins p None ≡ None)
  pub new : (p : ℕ) → p < n → slice_index_or origins p None ≡ None → In p touched
  pub ascends : (i j : ℕ) → i < j → j < length touched → slice_index_or touched i 0 < slice_index_or touched j 0

-- no place more, but those behind the end, which have no row
pub record Pads (old new : List (Option ℕ)) (count : ℕ) : Type 0 where
  pub long : length old ≤ count → length new ≡ count
  pub same : (o : ℕ) → slice_index_or new o None ≡ slice_index_or old o None

-- the row of an old place stands at a new one
pub record Puts (old new : List (Option ℕ)) (from to : ℕ) : Type 0 where
  pub within : length old ≤ from
  pub long : length new ≡ from + 1
  pub there : slice_index_or new from None ≡ Some to
  pub others : (o : ℕ) → (o ≡ from → ⊥) → slice_index_or new o None ≡ slice_index_or old o None

-- what noting a row makes of both
abbrev pub Notes : Option ℕ → ℕ → List (Option ℕ) → List (Option ℕ) → List ℕ → List ℕ → Type 0
Notes None to places noted touched more = (noted ≡ places) × (more ≡ touched ++ to ∷ [])
Notes (Some from) to places noted touched more = Puts places noted from to × (more ≡ touched)
