-- What a seat knows at first, and how each call changes it.
use Rattle.std.specs.Prelude.{◌≡◌, ℕ, ◌+◌, ◌-◌, ◌≤◌, ◌==◌, true, false, List, [], ◌∷◌, ◌++◌, map, length, Option, Some, None, if◌then◌else◌}
use Rattle.mq_claims.specs.declared.view.Entry.{Entry}
use Rattle.mq_claims.specs.declared.view.View.{View}

module _ {P : Type 0} where
  abbrev pub entry : ℕ → Option P → Entry P
  entry k piece = record { number = k; piece = piece }

  -- what stands under the number k: one item for each entry that has it
  abbrev pub under : ℕ → List (Entry P) → List (Option P)
  under k [] = []
  under k (e ∷ es) = if e.number == k then e.piece ∷ under k es else under k es

  -- each number of the list is below n
  abbrev pub AllBelow : ℕ → List (Entry P) → Type 0
  AllBelow n es = (k : ℕ) → n ≤ k → under k es ≡ []

  -- no number stands twice in the list
  abbrev pub NoTwice : List (Entry P) → Type 0
  NoTwice es = (k : ℕ) → length (under k es) ≤ 1

  -- a seat that has claimed nothing yet
  abbrev pub newcomer : List P → View P
  newcomer handed = record {
    handed = handed;
    entries = [];
    told = false;
    found = 0;
    busy = false;
    hand = 0;
    live = true;
    first = false;
    splits = 0;
    away = 0;
  }

  -- the first seat, which may split this many times
  abbrev pub beginner : List P → ℕ → View P
  beginner handed splits = record (newcomer handed) { first = true; splits = splits }

  -- a seat that was joined into another
  abbrev pub spent : View P
  spent = record (newcomer []) { told = true; live = false }

  abbrev pub with_claim : View P → ℕ → View P
  with_claim v k = record v { entries = entry k None ∷ v.entries; busy = true; hand = k }

  abbrev pub told_none : View P → ℕ → View P
  told_none v found = record v { told = true; found = found }

  abbrev pub with_piece : ℕ → P → Entry P → Entry P
  with_piece k p e = if e.number == k then entry k (Some p) else e

  abbrev pub with_put : View P → ℕ → P → View P
  with_put v k p = record v { entries = map (with_piece k p) v.entries; busy = false }

  abbrev pub one_more_away : View P → View P
  one_more_away v = record v { splits = v.splits - 1; away = v.away + 1 }

  abbrev pub newcomer_of : View P → View P
  newcomer_of v = newcomer v.handed

  abbrev pub joined : View P → View P → View P
  joined v w = record v { entries = v.entries ++ w.entries; away = v.away - 1 }
