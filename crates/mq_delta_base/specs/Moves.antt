-- Where the rows of a changed table stand now, and which of them a change touched.
use Rattle.std.specs.Prelude.{◌≡◌, ℕ, ◌<◌, Bool, true, false, List, [], ◌∷◌, length, map, ◌⊎◌, Option, Some, None, is_some, slice_index_or, slice_set}
use Rattle.std.specs.List.{filter, list_all, zip}
use Rattle.std.specs.Option.{unwrap_or}
use Rattle.mq_ir.specs.BaseRows.{Places}
use Rattle.mq_ir.specs.Keys.{Tuple}
use Rattle.mq_delta_base.specs.Sets.{In}

-- A list of rows follows another: `moved` has for each old place the new place of its row, or none where that row is gone or was
-- touched, and `touched` the new places of all other rows.
pub record Follows (moved : List (Option ℕ)) (touched : List ℕ) (old new : List Tuple) : Type 0 where
  pub stays : (place to : ℕ) → slice_index_or moved place None ≡ Some to
      → (place < length old) × (to < length new) × (slice_index_or new to [] ≡ slice_index_or old place [])
  pub rises : (a b to until : ℕ) → a < b → slice_index_or moved a None ≡ Some to → slice_index_or moved b None ≡ Some until → to < until
  pub comes : (to : ℕ) → to < length new → In to touched ⊎ ((place : ℕ) × (slice_index_or moved place None ≡ Some to))
  pub within : (to : ℕ) → In to touched → to < length new
  pub ascends : (i j : ℕ) → i < j → j < length touched → slice_index_or touched i 0 < slice_index_or touched j 0

module _ (moved : List (Option ℕ)) (touched : List ℕ) where
  -- the rows of the FROM items that are changed follow the old ones, and the others are the old ones
  abbrev pub AllFollow : List Bool → List (List Tuple) → List (List Tuple) → Type 0
  AllFollow [] [] [] = Unit {0}
  AllFollow [] [] (new ∷ news) = ⊥
  AllFollow [] (old ∷ olds) news = ⊥
  AllFollow (c ∷ changed) [] news = ⊥
  AllFollow (c ∷ changed) (old ∷ olds) [] = ⊥
  AllFollow (true ∷ changed) (old ∷ olds) (new ∷ news) = Follows moved touched old new × AllFollow changed olds news
  AllFollow (false ∷ changed) (old ∷ olds) (new ∷ news) = (new ≡ old) × AllFollow changed olds news

module _ (moved : List (Option ℕ)) where
  -- the new place of a row of a FROM item
  abbrev pub place_in : Bool × ℕ → Option ℕ
  place_in (true, place) = slice_index_or moved place None
  place_in (false, place) = Some place

  abbrev pub has_place : Bool × ℕ → Bool
  has_place part = is_some (place_in part)

  abbrev pub place_of : Bool × ℕ → ℕ
  place_of part = unwrap_or (place_in part) 0

  module _ (changed : List Bool) where
    -- whether none of the rows of a tuple is gone or touched
    abbrev pub stays_whole : Places → Bool
    stays_whole places = list_all has_place (zip changed places)

    -- where its rows stand now
    abbrev pub moved_to : Places → Places
    moved_to places = map place_of (zip changed places)

    -- the tuples that stay whole, with the new places of their rows
    abbrev pub survivors : List Places → List Places
    survivors old = map moved_to (filter stays_whole old)

-- a tuple over some rows of a FROM item, those at these places, as a tuple over all rows
abbrev pub through : ℕ → List ℕ → Places → Places
through item places tuple = slice_set tuple item (slice_index_or places (slice_index_or tuple item 0) 0)
