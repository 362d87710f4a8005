-- Lists of nodes, each node in one list at most, held as chains: for each list its first node, for each node the next one.
use Rattle.std.specs.Prelude.{◌≡◌, ℕ, suc, zero, ◌<◌, ◌≤◌, ◌==◌, cond, eqb, List, [], ◌∷◌, length, map, slice_index_or}
use Rattle.std.specs.List.{Contains, IsDistinct}
use Rattle.mq_levels.specs.declared.waiters.TheConstants.{NOBODY}

-- who comes behind a node
abbrev pub next_of : List ℕ → ℕ → ℕ
next_of next node = slice_index_or next node NOBODY

-- the nodes from `node` on, as far as the steps reach
abbrev pub chain : List ℕ → ℕ → ℕ → List ℕ
chain next zero node = []
chain next (suc steps) node = cond (node == NOBODY) [] (node ∷ chain next steps (next_of next node))

abbrev pub chain_from : List ℕ → ℕ → List ℕ
chain_from next node = chain next (length next) node

-- the list stands as a chain from `node` to its end
abbrev pub IsChain : List ℕ → ℕ → List ℕ → Type 0
IsChain next node [] = node ≡ NOBODY
IsChain next node (x ∷ xs) = (node ≡ x) × ((x ≡ NOBODY → ⊥) × IsChain next (next_of next x) xs)

abbrev pub lists_of : List ℕ → List ℕ → List (List ℕ)
lists_of first next = map (chain_from next) first

-- the lists stand as chains, and each node in one place of one list at most
pub record AreChains (first next : List ℕ) (lists : List (List ℕ)) : Type 0 where
  pub long : length next ≡ length first
  pub many : length lists ≡ length first
  pub few : length first ≤ NOBODY
  pub chains : (list : ℕ) → list < length first → IsChain next (slice_index_or first list NOBODY) (slice_index_or lists list [])
  pub within : (list node : ℕ) → Contains (slice_index_or lists list []) node → node < length first
  pub distinct : (list : ℕ) → IsDistinct eqb (slice_index_or lists list [])
  pub one : (list other node : ℕ) → Contains (slice_index_or lists list []) node → Contains (slice_index_or lists other []) node →
      list ≡ other
