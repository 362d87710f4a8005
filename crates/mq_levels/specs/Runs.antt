-- Reads as runs of nodes that follow one another.
use Rattle.std.specs.Prelude.{ℕ, zero, suc, ◌-◌, ◌≤◌, List, [], ◌∷◌, ◌++◌, drop, map, slice_index_or, take}
use Rattle.std.specs.List.{flat_map, range_with_len}
use Rattle.mq_levels.specs.declared.runs.Run.{Run}
use Rattle.mq_levels.specs.declared.runs.RunPlace.{RunPlace}

-- the nodes of a run
abbrev pub nodes_in : Run → List ℕ
nodes_in run = range_with_len run.start run.count

-- runs, written out
abbrev pub written : List Run → List ℕ
written runs = flat_map nodes_in runs

-- the runs of each node, and those of the node that is not ended yet
pub record RunLists : Type 0 where
  pub nodes : List (List Run)
  pub next : List Run

abbrev pub reads_in_runs : RunLists → List (List ℕ)
reads_in_runs lists = map written lists.nodes

abbrev pub runs_of : RunLists → ℕ → List Run
runs_of lists node = slice_index_or lists.nodes node []

-- what of the runs is left at a place
abbrev pub left_of : List Run → RunPlace → List ℕ
left_of runs place = written (take place.whole runs) ++ range_with_len place.start place.count

-- a list cut at its ends, the first part from `from`
abbrev pub parts : ℕ → List ℕ → List Run → List (List Run)
parts from [] runs = []
parts from (end ∷ ends) runs = take (end - from) (drop from runs) ∷ parts end ends runs

-- where the part of a node begins
abbrev pub begin_from : ℕ → List ℕ → ℕ → ℕ
begin_from from ends zero = from
begin_from from ends (suc node) = slice_index_or ends node 0

abbrev pub last_end : ℕ → List ℕ → ℕ
last_end from [] = from
last_end from (end ∷ ends) = last_end end ends

abbrev pub lists_of : List ℕ → List Run → RunLists
lists_of ends runs = record { nodes = parts 0 ends runs; next = drop (last_end 0 ends) runs }

-- the ends ascend, and none is behind the list's
abbrev pub AreEnds : ℕ → List ℕ → ℕ → Type 0
AreEnds from [] long = from ≤ long
AreEnds from (end ∷ ends) long = (from ≤ end) × AreEnds end ends long
