-- The claim machine, over plain data: workers claim pieces by number, take what they claimed, and put it back done.
use Rattle.std.specs.Prelude.{◌≡◌, ◌≢◌, ℕ, suc, ◌<◌, ◌≤◌, ◌==◌, if◌then◌else◌, Bool, true, false}
use Rattle.std.specs.Prelude.{List, [], ◌∷◌, ◌++◌, map, length, replicate, slice_set}
use mathlib.Core.Option.{some}
use lib.ListN.{get_elem?}
use Rattle.mq_claims.specs.declared.limits.TheConstants.{MAX_SEATS}

-- what became of a piece, by which worker; one that is done has a content
pub data Status (P : Type 0) : Type 0 where
  waiting : Status P
  claimed : ℕ → Status P
  held : ℕ → Status P
  done : ℕ → P → Status P

-- whether a worker lives, and whether it was told that nothing is left; its number is its place in the list
pub record Worker : Type 0 where
  pub live : Bool
  pub told : Bool

-- the number that is claimed next, the pieces, and the workers
pub record Machine (P : Type 0) : Type 0 where
  pub next : ℕ
  pub pieces : List (Status P)
  pub workers : List Worker

pub data Event (P : Type 0) : Type 0 where
  claiming : ℕ → Event P
  taking : ℕ → Event P
  putting : ℕ → P → Event P
  splitting : Event P
  joining : ℕ → ℕ → Event P

abbrev pub worker : Bool → Bool → Worker
worker live told = record { live = live; told = told }

module _ {P : Type 0} where
  abbrev pub machine : ℕ → List (Status P) → List Worker → Machine P
  machine next pieces workers = record { next = next; pieces = pieces; workers = workers }

  -- n pieces that wait, and worker 0 alone
  abbrev pub start : ℕ → Machine P
  start n = machine 0 (replicate n waiting) (worker true false ∷ [])

  -- the worker w has the piece in hand
  abbrev pub IsInHand : ℕ → Status P → Type 0
  IsInHand w waiting = ⊥
  IsInHand w (claimed v) = v ≡ w
  IsInHand w (held v) = v ≡ w
  IsInHand w (done v p) = ⊥

  -- what w did becomes what v did
  abbrev pub handed_over : ℕ → ℕ → Status P → Status P
  handed_over v w waiting = waiting
  handed_over v w (claimed u) = claimed u
  handed_over v w (held u) = held u
  handed_over v w (done u p) = done (if u == w then v else u) p

  -- An event leads from one state to another. Worker 0 alone makes a worker, which has a new number.
  abbrev pub Leads : Machine P → Event P → Machine P → Type 0
  Leads m (claiming w) m' = (get_elem? m.workers w ≡ some (worker true false))
      × ((k : ℕ) (st : Status P) → get_elem? m.pieces k ≡ some st → ¬ (IsInHand w st))
      × (m.next < length m.pieces → m' ≡ machine (suc m.next) (slice_set m.pieces m.next (claimed w)) m.workers)
      × (length m.pieces ≤ m.next → m' ≡ machine (suc m.next) m.pieces (slice_set m.workers w (worker true true)))
  Leads m (taking w) m' = (k : ℕ) × (get_elem? m.pieces k ≡ some (claimed w))
      × (m' ≡ machine m.next (slice_set m.pieces k (held w)) m.workers)
  Leads m (putting w p) m' = (k : ℕ) × (get_elem? m.pieces k ≡ some (held w))
      × (m' ≡ machine m.next (slice_set m.pieces k (done w p)) m.workers)
  Leads m splitting m' = ((t : Bool) × (get_elem? m.workers 0 ≡ some (worker true t))) × (length m.workers < MAX_SEATS)
      × (m' ≡ machine m.next m.pieces (m.workers ++ worker true false ∷ []))
  Leads m (joining v w) m' = (v ≢ w) × ((t : Bool) × (get_elem? m.workers v ≡ some (worker true t)))
      × (get_elem? m.workers w ≡ some (worker true true))
      × (m' ≡ machine m.next (map (handed_over v w) m.pieces) (slice_set m.workers w (worker false true)))

  -- a run: its events, the last one first, lead from the first state to the last
  abbrev pub Run : Machine P → List (Event P) → Machine P → Type 0
  Run m [] m' = m' ≡ m
  Run m (e ∷ es) m' = (between : Machine P) × Run m es between × Leads between e m'

  -- how many claims there were
  abbrev pub claims : List (Event P) → ℕ
  claims [] = 0
  claims (claiming w ∷ es) = suc (claims es)
  claims (taking w ∷ es) = claims es
  claims (putting w p ∷ es) = claims es
  claims (splitting ∷ es) = claims es
  claims (joining v w ∷ es) = claims es

  -- who claimed the number k, the last first: a claim gives as number how many there were before
  abbrev pub claimers : ℕ → List (Event P) → List ℕ
  claimers k [] = []
  claimers k (claiming w ∷ es) = if claims es == k then w ∷ claimers k es else claimers k es
  claimers k (taking w ∷ es) = claimers k es
  claimers k (putting w p ∷ es) = claimers k es
  claimers k (splitting ∷ es) = claimers k es
  claimers k (joining v w ∷ es) = claimers k es

  -- whether k is the number that w claimed last
  abbrev pub is_latest : ℕ → ℕ → List (Event P) → Bool
  is_latest k w [] = false
  is_latest k w (claiming v ∷ es) = if v == w then claims es == k else is_latest k w es
  is_latest k w (taking v ∷ es) = is_latest k w es
  is_latest k w (putting v p ∷ es) = is_latest k w es
  is_latest k w (splitting ∷ es) = is_latest k w es
  is_latest k w (joining u v ∷ es) = is_latest k w es

  -- what was put under the number k, the last first: a worker puts what it claimed last
  abbrev pub contents : ℕ → List (Event P) → List P
  contents k [] = []
  contents k (claiming w ∷ es) = contents k es
  contents k (taking w ∷ es) = contents k es
  contents k (putting w p ∷ es) = if is_latest k w es then p ∷ contents k es else contents k es
  contents k (splitting ∷ es) = contents k es
  contents k (joining v w ∷ es) = contents k es
