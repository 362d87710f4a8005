-- Places in a row, and lists of such runs.
use Rattle.std.specs.Prelude.{ℕ, ◌+◌, ◌-◌, ◌<◌, ◌≤◌, List, [], ◌∷◌}
use Rattle.std.specs.List.{flat_map, range_with_len}
use Rattle.mq_dim_index.specs.declared.place_runs.PlaceRun.{PlaceRun}

-- the places of a run
abbrev pub numbers_in : PlaceRun → List ℕ
numbers_in run = range_with_len run.first (run.past - run.first)

-- the places of these runs, one behind another
abbrev pub numbers_of : List PlaceRun → List ℕ
numbers_of runs = flat_map numbers_in runs

-- runs that ascend from the place `low` on and end up to `high`, of which none is empty or reaches into the next
abbrev pub AreRuns : ℕ → ℕ → List PlaceRun → Type 0
AreRuns low high [] = low ≤ high
AreRuns low high (run ∷ runs) = (low ≤ run.first) × (run.first < run.past) × AreRuns run.past high runs

-- places that ascend, each once, from `low` on and below `high`
abbrev pub RisesFrom : ℕ → ℕ → List ℕ → Type 0
RisesFrom low high [] = low ≤ high
RisesFrom low high (place ∷ places) = (low ≤ place) × RisesFrom (place + 1) high places
