-- What the workers of a board have made of the pieces that were handed in.
use Rattle.std.specs.Prelude.{◌≡◌, ℕ, true, false, List, [], ◌∷◌, Some}
use mathlib.Core.Option.{some}
use lib.ListN.{get_elem?}
use Rattle.mq_claims.specs.declared.board.Board.{Board}
use Rattle.mq_claims.specs.declared.view.Entry.{Entry}
use Rattle.mq_claims.specs.Views.{entry, under}
use Rattle.mq_claims.specs.Calls.{SeatFor, handed_in, view_of, IsSeatOf, MayClaim, IsFinished}

module _ {P : Type 0} where
  -- one run made this of the piece that was handed in under the number k
  abbrev pub IsRun : (P → P → Type 0) → List P → ℕ → P → Type 0
  IsRun ran handed k after = (before : P) × (get_elem? handed k ≡ some before) × ran before after

  -- where a number of the list has one entry, with a piece, one run made it of the number's piece
  abbrev pub EachIsRun : (P → P → Type 0) → List P → List (Entry P) → Type 0
  EachIsRun ran handed entries = (k : ℕ) (after : P) → under k entries ≡ Some after ∷ [] → IsRun ran handed k after

  -- the list gained the number k, with what one run made of its piece
  abbrev pub GainsRun : (P → P → Type 0) → List P → ℕ → List (Entry P) → List (Entry P) → Type 0
  GainsRun ran handed k old new = (after : P) × IsRun ran handed k after × (new ≡ entry k (Some after) ∷ old)

  -- a lent seat that has claimed nothing yet
  abbrev pub IsNew : Board P → SeatFor P → Type 0
  IsNew board seat = IsSeatOf board seat × MayClaim seat × ((view_of seat).first ≡ false) × ((view_of seat).entries ≡ [])

  -- a seat that was told none, with a run of each piece that it claimed or took over
  abbrev pub HasWorked : (P → P → Type 0) → Board P → SeatFor P → Type 0
  HasWorked ran board seat = IsSeatOf board seat × IsFinished seat × EachIsRun ran (handed_in board) (view_of seat).entries

  -- the first seat after its work, with as many seats to take back
  abbrev pub IsFirstDone : (P → P → Type 0) → Board P → SeatFor P → ℕ → Type 0
  IsFirstDone ran board seat away = HasWorked ran board seat × ((view_of seat).first ≡ true) × ((view_of seat).away ≡ away)
