-- The cells that the rules leave of a partition.
use Rattle.std.specs.Prelude.{List, [], map, Result, Ok, Err}
use Rattle.std.specs.Map.{keys_of}
use Rattle.std.specs.Option.{option_map_or}
use Rattle.mq_ir.specs.declared.query.OutCell.{OutCell}
use Rattle.mq_ir.specs.declared.query.PartInput.{PartInput}
use Rattle.mq_ir.specs.Iteration.{input_fault, out_cell, turn_count, turns_from}
use Rattle.mq_ir.specs.Partitions.{Cells}
use Rattle.mq_ir.specs.Placed.{Placed}
use Rattle.mq_ir.specs.Results.{◌>>=◌}
use Rattle.mq_ir.specs.Sequential.{Standing}
use Rattle.mq_ir.specs.Unfolding.{Model}

-- the cells that stand, each with whether it was a target
abbrev pub rows_of : Standing → List OutCell
rows_of s = map (out_cell s.updated) s.cells

-- what the rules leave of these cells
abbrev pub rows_over : Model → Cells → Result (List OutCell) Placed
rows_over model cells = turns_from model (keys_of cells) 0 (turn_count model) (record { cells = cells; updated = [] }) >>= (λ s. Ok (rows_of s))

-- the same, where they may begin with this input
abbrev pub rows_left : Model → PartInput → Result (List OutCell) Placed
rows_left model p = option_map_or Err (input_fault p) (rows_over model p.cells)
