-- The base rows after a change, found from those before it.
use Rattle.std.specs.Prelude.{◌≡◌, ℕ, ◌<◌, Bool, true, false, List, [], length, map, ◌⊎◌, Option, Result, Ok, slice_index_or}
use Rattle.std.specs.List.Sorted.{IsStrictlySortedBy}
use Rattle.mq_values.specs.declared.faults.QueryFault.{QueryFault}
use Rattle.mq_ir.specs.declared.query.FromPart.{FromPart}
use Rattle.mq_ir.specs.Answer.{plain_fault}
use Rattle.mq_ir.specs.BaseRows.{Places, kept_places}
use Rattle.mq_ir.specs.Keys.{Tuple}
use Rattle.mq_ir.specs.Results.{marked}
use Rattle.mq_ir.specs.Tables.{is_name}
use Rattle.mq_join.specs.Chosen.{choosing}
use Rattle.mq_join.specs.Kept.{PlaceRows}
use Rattle.mq_join.specs.Rows.{Joined, places_in}
use Rattle.mq_delta_base.specs.Moves.{AllFollow, survivors, through}
use Rattle.mq_delta_base.specs.Sets.{In, cmp_places, union}
use Rattle.mq_delta_base.specs.Verdicts.{IsCalm, Within, is_yes, verdict}

-- `old` are the kept rows over items which the new ones follow
pub record KeptBefore (from : FromPart) (changed : List Bool) (moved : List (Option ℕ)) (touched : List ℕ) (old : List Places) (news : List (List Tuple)) : Type 0 where
  pub olds : List (List Tuple)
  pub kept : kept_places from olds ≡ Ok old
  pub follow : AllFollow moved touched changed olds news

-- the places of base rows are those that are kept, one for each FROM item
pub record ArePlaces (from : FromPart) (items : List (List Tuple)) (rows : List Joined) : Type 0 where
  pub kept : kept_places from items ≡ Ok (map places_in rows)
  pub wide : (i : ℕ) → i < length rows → length (places_in (slice_index_or rows i [])) ≡ length items

-- the tuples with one of these rows of a FROM item are put to others
pub record AddsTouched (from : FromPart) (item : ℕ) (touched : List ℕ) (news : List (List Tuple)) (before after : PlaceRows) : Type 0 where
  pub kept : List Places
  pub chosen : kept_places from (choosing item touched news) ≡ Ok kept
  pub wide : after.width ≡ before.width
  pub rows : after.rows ≡ union before.rows (map (through item touched) kept)

-- a tuple over the new rows with a touched row of this FROM item
abbrev pub TouchedAt : List Bool → List ℕ → List (List Tuple) → ℕ → Places → Type 0
TouchedAt changed touched news k t = (slice_index_or changed k false ≡ true) × Within (map length news) t × In (slice_index_or t k 0) touched

-- What is gathered once the tuples with a touched row of the first n FROM items are judged, none of which faults.
pub record Gathered (from : FromPart) (changed : List Bool) (moved : List (Option ℕ)) (touched : List ℕ) (old : List Places) (news : List (List Tuple)) (n : ℕ) (out : List Places) : Type 0 where
  pub ascends : IsStrictlySortedBy cmp_places out
  pub sound : (t : Places) → In t out → Within (map length news) t × (is_yes (verdict from news t) ≡ true)
  pub stays : (t : Places) → In t (survivors moved changed old) → In t out
  pub found : (k : ℕ) (t : Places) → k < n → TouchedAt changed touched news k t → is_yes (verdict from news t) ≡ true → In t out
  pub calm : (k : ℕ) (t : Places) → k < n → TouchedAt changed touched news k t → IsCalm (verdict from news t)

-- the kept rows over these items, or the fault, as a query answers it
abbrev pub kept_rows_meant : FromPart → List (List Tuple) → Result (List Places) QueryFault
kept_rows_meant from items = marked (plain_fault 0) (kept_places from items)

-- whether each FROM item is of this table
abbrev pub changed_items : FromPart → List ℕ → List Bool
changed_items from table = map (is_name table) from.tables
