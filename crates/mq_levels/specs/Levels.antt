-- In which round each node of a list comes. A node waits for the nodes that it reads.
use Rattle.std.specs.Prelude.{◌≡◌, ℕ, suc, zero, ◌<◌, ◌≤◌, Bool, false, ◌&&◌, not, List, [], length, map, slice_index_or}
use Rattle.std.specs.List.{All, filter, list_all, range_with_len}
use Rattle.std.specs.declared.alloc.Global.{Global}
use Rattle.std.specs.declared.vec.Vec.{Vec}

-- for each node, by its number, the numbers of the nodes that it reads
abbrev pub reads_in : List (Vec ℕ Global) → List (List ℕ)
reads_in lists = map (λ (list : Vec ℕ Global). list.items) lists

abbrev pub reads_of : List (List ℕ) → ℕ → List ℕ
reads_of reads node = slice_index_or reads node []

-- what is read is a node
abbrev pub ReadsNodes : List (List ℕ) → Type 0
ReadsNodes reads = All (λ list. All (λ read. read < length reads) list) reads

-- At first no node is levelled. One round on, a node is levelled where each node that it reads was levelled.
abbrev pub levelled : List (List ℕ) → ℕ → ℕ → Bool
levelled reads zero node = false
levelled reads (suc n) node = list_all (levelled reads n) (reads_of reads node)

-- a node comes in round n: it is levelled behind the round, and was not levelled before
abbrev pub in_round : List (List ℕ) → ℕ → ℕ → Bool
in_round reads n node = levelled reads (suc n) node && not (levelled reads n node)

-- all nodes, ascending
abbrev pub nodes : List (List ℕ) → List ℕ
nodes reads = range_with_len 0 (length reads)

-- the nodes of round n, ascending
abbrev pub round_of : List (List ℕ) → ℕ → List ℕ
round_of reads n = filter (in_round reads n) (nodes reads)

-- the nodes that come in no round, ascending
abbrev pub rest_of : List (List ℕ) → List ℕ
rest_of reads = filter (λ node. not (levelled reads (length reads) node)) (nodes reads)

pub record AreRounds (reads : List (List ℕ)) (rounds : List (List ℕ)) : Type 0 where
  -- every round; behind the last one there is none
  pub each : (n : ℕ) → slice_index_or rounds n [] ≡ round_of reads n
  -- none is empty
  pub filled : All (λ round. 0 < length round) rounds
  -- behind them no node is levelled that was not levelled before
  pub complete : (n node : ℕ) → length rounds ≤ n → node < length reads → levelled reads n node ≡ levelled reads (length rounds) node
