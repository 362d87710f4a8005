-- What holds between two rounds, and within one.
use Rattle.std.specs.Prelude.{◌≡◌, ℕ, ◌<◌, ◌⊎◌, true, false, List, ◌++◌, length}
use Rattle.std.specs.List.{Contains}
use Rattle.mq_levels.specs.Levels.{in_round, levelled, reads_of}
use Rattle.mq_levels.specs.Numbers.{AreNumbered, Numbers, has_number}
use Rattle.mq_levels.specs.Waiting.{Waiters, waiters_of}

-- the node waits for a read
pub record Stands (waiters : Waiters) (node : ℕ) : Type 0 where
  pub read : ℕ
  pub among : Contains (waiters_of waiters read) node

-- n rounds are done, and of the nodes in question each that is not levelled is ready, so that it comes in round n, or waits
-- for a read. Only those reads have a number already whose waiters are still to be woken: those of `pending`.
pub record AreMoving (reads : List (List ℕ)) (n : ℕ) (numbers : Numbers) (There : ℕ → Type 0) (waiters : Waiters)
    (pending ready : List ℕ) : Type 0 where
  pub within : (node : ℕ) → There node → node < length reads
  pub waits : (read node : ℕ) → Contains (waiters_of waiters read) node → There node × Contains (reads_of reads node) read
  pub is_open : (read node : ℕ) → Contains (waiters_of waiters read) node → (has_number numbers read ≡ false) ⊎ Contains pending read
  pub early : (read node : ℕ) → Contains (waiters_of waiters read) node → levelled reads n node ≡ false
  pub placed : (node : ℕ) → There node → levelled reads n node ≡ false → Contains ready node ⊎ Stands waiters node
  pub only : (node : ℕ) → Contains ready node → (node < length reads) × (in_round reads n node ≡ true)

-- .. where the nodes in question are the first ones
abbrev pub FirstMoving : List (List ℕ) → ℕ → Numbers → ℕ → Waiters → List ℕ → List ℕ → Type 0
FirstMoving reads n numbers count waiters pending ready =
    AreMoving reads n numbers (λ node. node < count) waiters pending ready

-- .. where they are all
abbrev pub AllMoving : List (List ℕ) → ℕ → Numbers → Waiters → List ℕ → List ℕ → Type 0
AllMoving reads n numbers waiters pending ready = FirstMoving reads n numbers (length reads) waiters pending ready

-- all who waited for a read that has a number went on
abbrev pub AreWoken : List (List ℕ) → Numbers → List ℕ → Waiters → Waiters → List ℕ → List ℕ → Type 0
AreWoken reads numbers nodes before after had has = (n : ℕ) (others : List ℕ) → AreNumbered reads n numbers →
    AllMoving reads n numbers before (nodes ++ others) had → AllMoving reads n numbers after others has
