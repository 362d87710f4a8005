-- Reads as runs of places: what is assigned at the places of a run, by its number.
use Rattle.std.specs.Prelude.{ℕ, ◌-◌, List, [], ◌++◌, map, slice_index_or, take}
use Rattle.std.specs.List.{filter_map, flat_map, range_with_len}
use Rattle.mq_cells.specs.LaneItems.{Lanes, lane_item}
use Rattle.mq_auto_shape.specs.declared.lane_reads.LanePlace.{LanePlace}
use Rattle.mq_auto_shape.specs.declared.lane_reads.LaneRun.{LaneRun}

-- the numbers at the places from `first` to before `past` of a measure
abbrev pub numbers_between : Lanes ℕ → ℕ → ℕ → ℕ → List ℕ
numbers_between lanes m first past = filter_map (lane_item lanes m) (range_with_len first (past - first))

-- the numbers at the places of a run
abbrev pub numbers_in : Lanes ℕ → LaneRun → List ℕ
numbers_in lanes run = numbers_between lanes run.measure run.first run.past

-- .. of runs
abbrev pub numbers_of : Lanes ℕ → List LaneRun → List ℕ
numbers_of lanes runs = flat_map (numbers_in lanes) runs

-- for each node the numbers of its runs
abbrev pub reads_in_lanes : Lanes ℕ → List (List LaneRun) → List (List ℕ)
reads_in_lanes lanes lists = map (numbers_of lanes) lists

abbrev pub runs_of : List (List LaneRun) → ℕ → List LaneRun
runs_of lists node = slice_index_or lists node []

-- what of the runs is left at a place
abbrev pub left_of : Lanes ℕ → List LaneRun → LanePlace → List ℕ
left_of lanes runs place = numbers_of lanes (take place.whole runs) ++ numbers_in lanes place.run
