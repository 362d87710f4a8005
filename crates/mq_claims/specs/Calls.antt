-- Words for those who call a board.
use Rattle.std.specs.Prelude.{◌≡◌, ℕ, ◌<◌, true, false, List, [], ◌∷◌, length, Option, Some, None}
use mathlib.Core.Option.{some}
use lib.ListN.{get_elem?}
use Rattle.atomic_table.specs.declared.shared.Seat.{Seat}
use Rattle.mq_claims.specs.declared.board.Board.{Board}
use Rattle.mq_claims.specs.declared.view.View.{View}
use Rattle.mq_claims.specs.Views.{under, AllBelow}

-- a seat of a board of pieces P
abbrev pub SeatFor : Type 0 → Type 0
SeatFor P = Seat (Option P) (View P)

module _ {P : Type 0} where
  -- the pieces as they were handed in
  abbrev pub handed_in : Board P → List P
  handed_in board = board.table.shared.key.handed.value.items

  abbrev pub IsSeatOf : Board P → SeatFor P → Type 0
  IsSeatOf board seat = (seat.table_id ≡ board.table.shared.table_id) × (seat.me.0.handed ≡ handed_in board)

  abbrev pub IsSameSeat : SeatFor P → SeatFor P → Type 0
  IsSameSeat old new = (new.table_id ≡ old.table_id) × (new.id ≡ old.id)

  -- one is the first seat, with as many seats out, where the other is
  abbrev pub IsAsFirst : SeatFor P → SeatFor P → Type 0
  IsAsFirst old new = (new.me.0.first ≡ old.me.0.first) × (new.me.0.away ≡ old.me.0.away)

  -- what the seat knows: among it the numbers that it claimed or took over, each with the piece that was put under it
  abbrev pub view_of : SeatFor P → View P
  view_of seat = seat.me.0

  -- it was not told none, and has put every piece that it claimed
  abbrev pub MayClaim : SeatFor P → Type 0
  MayClaim seat = (seat.me.0.live ≡ true) × (seat.me.0.told ≡ false) × (seat.me.0.busy ≡ false) × (seat.me.1 ≡ [])

  -- it claimed the number k, and has not taken the piece: its slot has what was handed in
  abbrev pub HasClaimed : SeatFor P → ℕ → Type 0
  HasClaimed seat k = (seat.me.0.busy ≡ true) × (seat.me.0.hand ≡ k)
      × ((p : P) × (get_elem? seat.me.0.handed k ≡ some p) × (seat.me.1 ≡ (k, Some p) ∷ []))

  -- it took the piece of the number k, and has not put it: its slot has nothing
  abbrev pub HasTaken : SeatFor P → ℕ → Type 0
  HasTaken seat k = (seat.me.0.busy ≡ true) × (seat.me.0.hand ≡ k) × (seat.me.1 ≡ (k, None) ∷ [])

  abbrev pub MaySplit : SeatFor P → Type 0
  MaySplit seat = (seat.me.0.first ≡ true) × (0 < seat.me.0.splits)

  -- it was told none and can be joined into the first seat
  abbrev pub IsFinished : SeatFor P → Type 0
  IsFinished seat = (seat.me.0.live ≡ true) × (seat.me.0.told ≡ true) × (seat.me.1 ≡ [])

  -- it is the first seat, was told none, and has joined each seat that it split
  abbrev pub MayClose : SeatFor P → Type 0
  MayClose seat = (seat.me.0.first ≡ true) × (seat.me.0.told ≡ true) × (seat.me.0.away ≡ 0)

  -- as many pieces as were handed in, each as it was put; the seat's list is all their numbers, each once
  abbrev pub IsWhole : List P → View P → Type 0
  IsWhole pieces v = (length pieces ≡ length v.handed) × AllBelow (length pieces) v.entries
      × ((k : ℕ) (p : P) → get_elem? pieces k ≡ some p → under k v.entries ≡ Some p ∷ [])
