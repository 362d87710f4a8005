-- The turns of a model in sequential order, and what it makes of a partition.
use Rattle.std.specs.Prelude.{ℕ, zero, suc, ◌+◌, List, [], length, map, Bool, true, false, nat_lt, if◌then◌else◌, Option, Some, None, Result, Ok, Err}
use Rattle.std.specs.Map.{keys_of}
use Rattle.std.specs.Option.{option_and_then, option_map, option_map_or, option_or}
use Rattle.mq_values.specs.declared.faults.FaultKind.TheVariants as kind
use Rattle.mq_values.specs.Truth.{is_true}
use Rattle.mq_ir.specs.declared.expression.Expr.{Expr}
use Rattle.mq_ir.specs.declared.query.OutCell.{OutCell}
use Rattle.mq_ir.specs.declared.query.PartInput.{PartInput}
use Rattle.mq_ir.specs.declared.query.PartResult.{PartResult}
use Rattle.mq_ir.specs.declared.query.PartResult.TheVariants.{Rows, Fault}
use Rattle.mq_ir.specs.Expression.{holds}
use Rattle.mq_ir.specs.Keys.{is_among}
use Rattle.mq_values.specs.declared.limits.TheConstants.{MAX_CELLS_OF_PARTITION}
use Rattle.mq_ir.specs.Partitions.{Tuple, Cells}
use Rattle.mq_ir.specs.Placed.{Placed, at_partition, placed_fault, value_fault}
use Rattle.mq_ir.specs.Reads.{Site, measure_at, read_until}
use Rattle.mq_ir.specs.Results.{◌>>=◌, marked}
use Rattle.mq_ir.specs.Sequential.{Standing, turn_step}
use Rattle.mq_ir.specs.Unfolding.{Model}

-- UNTIL over the cells after a turn and before it; where it is unknown, the turns go on
abbrev pub until_holds : Model → List Tuple → ℕ → Cells → Cells → Expr → Result Bool Placed
until_holds model input turn before cells e =
    let site : Site = record { model = model; target = []; turn = turn; set = keys_of cells } in
    marked (value_fault 0 []) (holds (read_until site input (measure_at cells) (measure_at before)) e) >>= (λ truth. Ok (is_true truth))

-- whether UNTIL ends the turns after this one
abbrev pub is_last : Model → List Tuple → ℕ → Cells → Cells → Result Bool Placed
is_last model input turn before cells =
    option_map_or (until_holds model input turn before cells) (option_and_then (λ iterate. iterate.until) model.part.iterate) (Ok false)

-- the turns from this one on, so many at most
abbrev pub turns_from : Model → List Tuple → ℕ → ℕ → Standing → Result Standing Placed
turns_from model input turn zero s = Ok s
turns_from model input turn (suc more) s =
    turn_step model input turn s >>= (λ next.
    is_last model input turn s.cells next.cells >>= (λ last.
    elim last [ true ↦ Ok next | false ↦ turns_from model input (turn + 1) more next ]))

-- without ITERATE there is one turn
abbrev pub turn_count : Model → ℕ
turn_count model = option_map_or (λ iterate. iterate.turns) model.part.iterate 1

-- why the rules may not begin with this input
abbrev pub input_fault : PartInput → Option Placed
input_fault p =
    option_or (option_map (λ key. placed_fault 0 key kind.NotUnique) p.repeated)
    (if nat_lt MAX_CELLS_OF_PARTITION (length p.cells) then Some (placed_fault 0 [] kind.TooManyCells) else None)

-- the cells that the rules leave, with those that were a target, or the first fault
abbrev pub cells_left : Model → PartInput → Result Standing Placed
cells_left model p =
    option_map_or Err (input_fault p) (turns_from model (keys_of p.cells) 0 (turn_count model) (record { cells = p.cells; updated = [] }))

abbrev pub out_cell : List Tuple → Tuple × Tuple → OutCell
out_cell updated (key, measures) = record { key = key; measures = measures; updated = is_among updated key }

-- a fault carries the partition's key
abbrev pub part_result : Tuple → Result (List OutCell) Placed → PartResult
part_result key (Ok cells) = Rows cells
part_result key (Err fault) = Fault (at_partition key fault)

-- what a model in sequential order makes of a partition
abbrev pub sequential : Model → PartInput → PartResult
sequential model p = part_result p.key (cells_left model p >>= (λ s. Ok (map (out_cell s.updated) s.cells)))
