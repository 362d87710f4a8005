-- How nodes wait. Each node that has no number waits for one of its reads that has none, and stands in the list of that
-- read. When the read gets its number, the node goes on to its next read that has none.
use Rattle.std.specs.Prelude.{◌≡◌, ℕ, ◌<◌, ◌⊎◌, Bool, true, false, List, [], ◌∷◌, ◌++◌, length, set, slice_index_or}
use Rattle.std.specs.List.{Contains, list_all}
use Rattle.mq_levels.specs.Levels.{reads_of}
use Rattle.mq_levels.specs.Numbers.{Numbers, has_number}

-- each read of the node has a number
abbrev pub is_ready : List (List ℕ) → Numbers → ℕ → Bool
is_ready reads numbers node = list_all (has_number numbers) (reads_of reads node)

-- for each node, by its number, those that wait for it
abbrev pub Waiters : Type 0
Waiters = List (List ℕ)

abbrev pub waiters_of : Waiters → ℕ → List ℕ
waiters_of waiters read = slice_index_or waiters read []

-- .. with one more
abbrev pub with_waiter : Waiters → ℕ → ℕ → Waiters
with_waiter waiters read node = set waiters read (node ∷ waiters_of waiters read)

-- the node waits for nobody
abbrev pub IsFree : Waiters → ℕ → Type 0
IsFree waiters node = (read : ℕ) → Contains (waiters_of waiters read) node → ⊥

-- A node went on. Each of its reads has a number, and it is among the ready ones now ..
pub record IsReady (reads : List (List ℕ)) (numbers : Numbers) (node : ℕ) (before after : Waiters) (had has : List ℕ) : Type 0 where
  pub ready : is_ready reads numbers node ≡ true
  pub same : after ≡ before
  pub joined : has ≡ had ++ node ∷ []

-- .. or one has none, and it waits for that one
pub record Waits (reads : List (List ℕ)) (numbers : Numbers) (node : ℕ) (before after : Waiters) (had has : List ℕ) : Type 0 where
  pub read : ℕ
  pub there : read < length reads
  pub reads_it : Contains (reads_of reads node) read
  pub is_open : has_number numbers read ≡ false
  pub stands : after ≡ with_waiter before read node
  pub same : has ≡ had

-- `before` and `after` are those that wait, `had` and `has` the ready nodes
abbrev pub WentOn : List (List ℕ) → Numbers → ℕ → Waiters → Waiters → List ℕ → List ℕ → Type 0
WentOn reads numbers node before after had has =
    IsReady reads numbers node before after had has ⊎ Waits reads numbers node before after had has
