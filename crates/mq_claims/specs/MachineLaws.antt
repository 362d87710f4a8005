-- What each run of the claim machine keeps.
use Rattle.std.specs.Prelude.{◌≡◌, ℕ, ◌+◌, ◌<◌, ◌≤◌, min, Bool, true, false, List, [], ◌∷◌, length}
use Rattle.std.specs.List.{count_by}
use mathlib.Core.Option.{some}
use lib.ListN.{get_elem?}
use Rattle.mq_claims.specs.declared.limits.TheConstants.{MAX_SEATS}
use Rattle.mq_claims.specs.Machine.{Status, waiting, claimed, held, done, Worker, worker, Machine, Event, start, Run, claimers, contents}

-- a piece with a number below `next` was claimed by one worker, once; each other piece waits
abbrev pub EachIsClaimedOnce : Type 0 → Type 0
EachIsClaimedOnce P = (n : ℕ) (es : List (Event P)) (m : Machine P) → Run (start n) es m → (k : ℕ) → k < n →
    (k < m.next → (w : ℕ) × (claimers k es ≡ w ∷ [])) × (m.next ≤ k → (claimers k es ≡ []) × (get_elem? m.pieces k ≡ some waiting))

-- a worker was told that nothing is left
abbrev pub is_told : Worker → Bool
is_told x = x.told

module _ {P : Type 0} where
  -- worker 0 lives, no other does, and it was told that nothing is left
  abbrev pub IsOver : Machine P → Type 0
  IsOver m = (get_elem? m.workers 0 ≡ some (worker true true))
      × ((w : ℕ) (x : Worker) → get_elem? m.workers w ≡ some x → x.live ≡ true → w ≡ 0)

  abbrev pub is_done : Status P → Bool
  is_done waiting = false
  is_done (claimed w) = false
  is_done (held w) = false
  is_done (done w p) = true

  abbrev pub is_in_hand : Status P → Bool
  is_in_hand waiting = false
  is_in_hand (claimed w) = true
  is_in_hand (held w) = true
  is_in_hand (done w p) = false

-- at the end `next` has passed the last piece, each piece is done, and its content is that of its one put
abbrev pub AllIsDone : Type 0 → Type 0
AllIsDone P = (n : ℕ) (es : List (Event P)) (m : Machine P) → Run (start n) es m → IsOver m →
    (n < m.next) × ((k : ℕ) → k < n → (p : P) × (get_elem? m.pieces k ≡ some (done 0 p)) × (contents k es ≡ p ∷ []))

-- the pieces done and those in hand are as many as were claimed
abbrev pub PiecesAreCounted : Type 0 → Type 0
PiecesAreCounted P = (n : ℕ) (es : List (Event P)) (m : Machine P) → Run (start n) es m →
    count_by is_done m.pieces + count_by is_in_hand m.pieces ≡ min n m.next

-- the claim word passes the last piece once for each worker that was told that nothing is left, and so for no more than there are seats
abbrev pub ClaimsAreBounded : Type 0 → Type 0
ClaimsAreBounded P = (n : ℕ) (es : List (Event P)) (m : Machine P) → Run (start n) es m →
    (m.next ≤ n + count_by is_told m.workers) × (length m.workers ≤ MAX_SEATS)
