-- The rule of a board's table: there is a run of the claim machine that ends in what the words, the slots at home and the views show.
use Rattle.std.specs.Prelude.{◌≡◌, ℕ, suc, ◌+◌, ◌-◌, ◌<◌, ◌≤◌, ◌==◌, Bool, true, List, [], ◌∷◌, length, Option, Some, None, if◌then◌else◌}
use Rattle.std.specs.List.{count_by}
use mathlib.Core.Option as maybe
use mathlib.Core.Option.{some, none}
use lib.ListN.{get_elem?}
use Rattle.atomic_table.specs.Table.{State, Me, Step, rest}
use Rattle.mq_claims.specs.declared.limits.TheConstants.{MAX_PIECES, MAX_SEATS}
use Rattle.mq_claims.specs.declared.view.View.{View}
use Rattle.mq_claims.specs.declared.view.Setting.{Setting}
use Rattle.mq_claims.specs.Machine.{Status, waiting, claimed, held, done, Worker, worker, Machine, Event, start, IsInHand, Run}
use Rattle.mq_claims.specs.MachineLaws.{is_done}
use Rattle.mq_claims.specs.Views.{under, AllBelow, NoTwice, beginner, with_claim, told_none, with_put}

abbrev pub is_live : Worker → Bool
is_live x = x.live

module _ {P : Type 0} where
  -- what a worker's list has under the number of a piece: one entry where the piece is the worker's, else none
  abbrev pub listed : ℕ → Status P → List (Option P)
  listed w waiting = []
  listed w (claimed v) = if v == w then None ∷ [] else []
  listed w (held v) = if v == w then None ∷ [] else []
  listed w (done v p) = if v == w then Some p ∷ [] else []

  -- what is at home of a piece, nothing where its slot is out, where this piece was handed in
  abbrev pub IsHome : maybe.Option (maybe.Option (Option P)) → maybe.Option P → Status P → Type 0
  IsHome home handed waiting = (p : P) × (handed ≡ some p) × (home ≡ some (some (Some p)))
  IsHome home handed (claimed w) = home ≡ some none
  IsHome home handed (held w) = home ≡ some none
  IsHome home handed (done w p) = home ≡ some (some (Some p))

  -- a seat's view shows what the machine has of the worker that has the seat's number
  pub record Shows (handed : List P) (m : Machine P) (id : ℕ) (v : View P) : Type 0 where
    pub same_handed : v.live ≡ true → v.handed ≡ handed
    pub as_worker : get_elem? m.workers id ≡ some (worker v.live v.told)
    pub lists : (k : ℕ) (st : Status P) → get_elem? m.pieces k ≡ some st → under k v.entries ≡ listed id st
    pub no_more : AllBelow (length m.pieces) v.entries
    pub has_out : (k : ℕ) (st : Status P) → get_elem? m.pieces k ≡ some st → IsInHand id st → (v.busy ≡ true) × (k ≡ v.hand)
    -- No rule sees a seat's own slots, so a piece in hand stands as claimed until it is put: then the machine takes it and puts it.
    pub in_hand : v.busy ≡ true → get_elem? m.pieces v.hand ≡ some (claimed id)
    pub as_first : v.first ≡ true → (id ≡ 0) × (v.live ≡ true) × (count_by is_live m.workers ≡ suc v.away)
        × (length m.workers + v.splits ≤ MAX_SEATS)

  pub record Follows (handed : List P) (s : State (Option P) (View P)) : Type 0 where
    pub machine : Machine P
    pub events : List (Event P)
    pub run : Run (start (length handed)) events machine
    pub few : length handed ≤ MAX_PIECES
    pub words : s.words ≡ machine.next ∷ count_by is_done machine.pieces ∷ []
    pub slots : length s.homes ≡ length handed
    pub seats : length s.views ≡ length machine.workers
    pub homes : (k : ℕ) (st : Status P) → get_elem? machine.pieces k ≡ some st → IsHome (get_elem? s.homes k) (get_elem? handed k) st
    pub views : (id : ℕ) (v : View P) → get_elem? s.views id ≡ some v → Shows handed machine id v

  abbrev pub rule : Setting P → State (Option P) (View P) → Type 0
  rule setting s = Follows setting.handed.value.items s

  abbrev pub opener : Setting P → View P
  opener setting = beginner setting.handed.value.items (setting.seats - 1)

  -- A claim that found a number below the count of pieces has it, with its slot; any other is told none.
  abbrev pub Claims : Step (Option P) → Me (Option P) (View P) → ℕ → Me (Option P) (View P) → Type 0
  Claims st me found me' =
      (found < length me.0.handed → (me'.0 ≡ with_claim me.0 found) × AllBelow found me.0.entries
      × ((p : P) × (get_elem? me.0.handed found ≡ some p) × (me'.1 ≡ (found, Some p) ∷ me.1)))
      × (length me.0.handed ≤ found → me' ≡ (told_none me.0 found, me.1))

  -- a put gives the slot back, and its piece stands in the list
  abbrev pub put_view : View P → List (ℕ × Option P) → View P
  put_view v [] = v
  put_view v ((k, None) ∷ xs) = v
  put_view v ((k, Some p) ∷ xs) = with_put v k p

  abbrev pub Puts : Step (Option P) → Me (Option P) (View P) → ℕ → Me (Option P) (View P) → Type 0
  Puts st me found me' = me' ≡ (put_view me.0 me.1, rest me.1)

  -- a look changes nothing, and tells that the rule allows a number in a list once alone
  abbrev pub Looks : Step (Option P) → Me (Option P) (View P) → ℕ → Me (Option P) (View P) → Type 0
  Looks st me found me' = (me' ≡ me) × NoTwice me.0.entries
