-- What a model in automatic order makes of a partition.
use Rattle.std.specs.Prelude.{ℕ, ◌-◌, List, length, map, Bool, not, Option, Some, None, Result, Ok, Err, slice_get}
use Rattle.std.specs.List.{filter, filter_map, find, list_any, range_with_len}
use Rattle.std.specs.Map.{keys_of}
use Rattle.std.specs.Option.{option_and_then, option_map, option_map_or}
use Rattle.std.specs.Result.{result_unwrap_or}
use Rattle.mq_values.specs.declared.faults.FaultKind.TheVariants as kind
use Rattle.mq_values.specs.declared.value.Value.TheVariants.{Null}
use Rattle.mq_ir.specs.declared.query.Look.{Look}
use Rattle.mq_ir.specs.declared.query.Look.TheVariants.{Measure, Presence}
use Rattle.mq_ir.specs.declared.query.OutCell.{OutCell}
use Rattle.mq_ir.specs.declared.query.PartInput.{PartInput}
use Rattle.mq_ir.specs.declared.query.PartResult.{PartResult}
use Rattle.mq_ir.specs.declared.query.PartShape.{PartShape}
use Rattle.mq_ir.specs.declared.query.Rule.{Rule}
use Rattle.mq_ir.specs.declared.query.Slot.{Slot}
use Rattle.mq_ir.specs.declared.query.Slot.TheVariants.{Done, Faulted, Poisoned}
use Rattle.mq_ir.specs.Iteration.{input_fault, part_result}
use Rattle.mq_ir.specs.Keys.{is_same}
use Rattle.mq_ir.specs.Looks.{looks_of}
use Rattle.mq_ir.specs.Partitions.{Tuple, Cells, ascending}
use Rattle.mq_ir.specs.Placed.{Placed, placed_fault, value_fault}
use Rattle.mq_ir.specs.Reads.{measure_at}
use Rattle.mq_ir.specs.Results.{◌>>=◌}
use Rattle.mq_ir.specs.Rounds.{System, levelled, value}
use Rattle.mq_ir.specs.Shape.{Assignment, assigns, bare_shape, cmp_by_rule, least_of, shape_over}
use Rattle.mq_ir.specs.Slots.{Slots, cell_slot, done_value, site_in}
use Rattle.mq_ir.specs.Unfolding.{Model}

-- the measure that an assignment is of, as a node; the presence of a cell is a node that nothing assigns
abbrev pub node_of : Assignment → Look
node_of a = Measure (record { key = a.0; measure = a.1 })

-- the number of the rule that assigns a node
abbrev pub rule_at : PartShape → Look → Option ℕ
rule_at shape (Measure c) = option_map (λ a. a.2) (find (assigns c.measure c.key) shape.assigned)
rule_at shape (Presence key) = None

abbrev pub cell_of : Look → Tuple
cell_of (Measure c) = c.key
cell_of (Presence key) = key

-- the rule that assigns a node
abbrev pub assigning_rule : Model → PartShape → Look → Option Rule
assigning_rule model shape node = option_and_then (λ number. slice_get model.part.rules (number - 1)) (rule_at shape node)

-- the looks of a node that is assigned
abbrev pub node_looks : Model → PartShape → Look → Option (List Look)
node_looks model shape node =
    option_map (λ rule. looks_of (site_in model shape 0 (cell_of node)) rule.right) (assigning_rule model shape node)

-- the slot that the rule of a node makes of the slots of other nodes
abbrev pub node_step : Model → PartShape → Look → (Look → Slot) → Slot
node_step model shape node slots =
    option_map_or (λ rule. cell_slot model shape 0 rule (cell_of node) (λ c. slots (Measure c))) (assigning_rule model shape node) Poisoned

-- what is not assigned keeps its input value; null where the input does not have the cell
abbrev pub input_slot : Cells → Look → Slot
input_slot input (Measure c) = Done (measure_at input c)
input_slot input (Presence key) = Done Null

-- the nodes of a partition
abbrev pub system_of : Model → PartShape → Cells → System Look Slot
system_of model shape input =
    record { looks_of = node_looks model shape; step = node_step model shape; unknown = Poisoned; input = input_slot input }

-- as many rounds as there are assignments are enough
abbrev pub round_count : PartShape → ℕ
round_count shape = length shape.assigned

-- CYCLE: the least (rule, cell) that cannot be levelled
abbrev pub cycle_in : Model → PartShape → Option Placed
cycle_in model shape =
    let is_unlevelled : Assignment → Bool = λ a. not (levelled (node_looks model shape) (round_count shape) (node_of a)) in
    option_map (λ a. placed_fault a.2 a.0 kind.Cycle) (least_of cmp_by_rule (filter is_unlevelled shape.assigned))

-- the shape of an input with these keys, without a fault of the shape and without a cycle
abbrev pub levelled_shape : Model → List Tuple → Result PartShape Placed
levelled_shape model keys = shape_over model keys >>= (λ shape. option_map_or Err (cycle_in model shape) (Ok shape))

-- the slots in the end
abbrev pub slots_in : Model → PartShape → Cells → Slots
slots_in model shape input c = value (system_of model shape input) (round_count shape) (Measure c)

-- the fault of an assignment by its own evaluation
abbrev pub own_fault : Slots → Assignment → Option Placed
own_fault slots a = elim (slots (record { key = a.0; measure = a.1 })) [ Faulted fault ↦ Some (value_fault a.2 a.0 fault) | _ ↦ None ]

-- the fault at the least (rule, cell)
abbrev pub first_fault : PartShape → Slots → Option Placed
first_fault shape slots = slice_get (filter_map (own_fault slots) (ascending cmp_by_rule shape.assigned)) 0

-- a cell with its values; it counts as updated where a rule assigns one of its measures
abbrev pub slot_cell : Model → PartShape → Slots → Tuple → OutCell
slot_cell model shape slots key =
    record {
      key = key;
      measures = map (λ m. done_value (slots (record { key = key; measure = m }))) (range_with_len 0 (length model.part.measures));
      updated = list_any (λ a. is_same key a.0) shape.assigned;
    }

abbrev pub slot_cells : Model → PartShape → Slots → Result (List OutCell) Placed
slot_cells model shape slots = option_map_or Err (first_fault shape slots) (Ok (map (slot_cell model shape slots) shape.cells))

-- the shape of a partition of which every assignment is levelled, or the first fault
abbrev pub shape_found : Model → PartInput → Result PartShape Placed
shape_found model p = option_map_or Err (input_fault p) (levelled_shape model (keys_of p.cells))

-- what a model in automatic order makes of a partition: its shape, and its cells or the first fault
abbrev pub automatic : Model → PartInput → PartShape × PartResult
automatic model p =
    let found = shape_found model p in (
      result_unwrap_or found (bare_shape (keys_of p.cells)),
      part_result p.key (found >>= (λ shape. slot_cells model shape (slots_in model shape p.cells))),
    )
