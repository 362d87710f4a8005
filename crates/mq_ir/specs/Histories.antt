-- What the versions of an input come to, one after another.
use Rattle.std.specs.Prelude.{List, [], ◌∷◌, length, map, if◌then◌else◌, Option, Some, None, Result, Ok, Err}
use Rattle.std.specs.List.{find, fold, range_with_len}
use Rattle.std.specs.Map.{keys_of}
use Rattle.std.specs.Option.{option_map_or, option_or}
use Rattle.mq_values.specs.declared.value.Value.TheVariants.{Null}
use Rattle.mq_ir.specs.declared.query.OutCell.{OutCell}
use Rattle.mq_ir.specs.declared.query.PartInput.{PartInput}
use Rattle.mq_ir.specs.declared.query.PartResult.{PartResult}
use Rattle.mq_ir.specs.declared.query.PartShape.{PartShape}
use Rattle.mq_ir.specs.declared.query.Slot.{Slot}
use Rattle.mq_ir.specs.declared.query.Slot.TheVariants.{Done, Faulted, Poisoned}
use Rattle.mq_ir.specs.Iteration.{input_fault, part_result}
use Rattle.mq_ir.specs.Keys.{Tuple, is_among}
use Rattle.mq_ir.specs.Partitions.{Cells}
use Rattle.mq_ir.specs.Placed.{Placed, value_fault}
use Rattle.mq_ir.specs.Reads.{measure_at}
use Rattle.mq_ir.specs.Slots.{Slots, cell_slot, done_value}
use Rattle.mq_ir.specs.Unfolding.{Model}
use Rattle.mq_ir.specs.Versions.{LeftAct, Version, left_walk, versions}
use Rattle.mq_ir.specs.VersionLooks.{VersionName, VersionNode, Made, Given, There, is_same_name, is_version_of, name_of}

-- what is there when a version is assigned; the assignments of a shape are not asked for
abbrev pub shape_at : List Tuple → Version → PartShape
shape_at keys v = record { base = keys; cells = v.set; assigned = [] }

-- what the rule of a version makes of the slots of that moment
abbrev pub version_slot : Model → List Tuple → Version → Slots → Slot
version_slot model keys v = cell_slot model (shape_at keys v) 0 v.rule v.key

abbrev pub with_slot : Slots → Version → Slot → Slots
with_slot slots v slot c = if is_version_of c v then slot else slots c

-- these versions with their slots, each over what the ones before it have left; a fault ends nothing
abbrev pub slots_from : Model → List Tuple → List Version → Slots → List (Version × Slot)
slots_from model keys [] slots = []
slots_from model keys (v ∷ vs) slots =
    let slot = version_slot model keys v slots in (v, slot) ∷ slots_from model keys vs (with_slot slots v slot)

-- the slots that these versions leave
abbrev pub slots_after : Model → List Tuple → List Version → Slots → Slots
slots_after model keys [] slots = slots
slots_after model keys (v ∷ vs) slots = slots_after model keys vs (with_slot slots v (version_slot model keys v slots))

-- the input as slots; null where it does not have the cell
abbrev pub given_slots : Cells → Slots
given_slots input c = Done (measure_at input c)

-- the history of an input: its versions with their slots
abbrev pub history : Model → Cells → List (Version × Slot)
history model input = slots_from model (keys_of input) (versions model (keys_of input)) (given_slots input)

abbrev pub slot_named : List (Version × Slot) → VersionName → Slot
slot_named made name = option_map_or (λ w. w.1) (find (λ w. is_same_name name (name_of w.0)) made) Poisoned

-- what a version may look at, as a slot
abbrev pub node_slot : Model → Cells → VersionNode → Slot
node_slot model input (Made name) = slot_named (history model input) name
node_slot model input (Given c) = given_slots input c
node_slot model input (There key) = Done Null

-- the first version that faults by its own evaluation
abbrev pub first_own_fault : List (Version × Slot) → Option Placed
first_own_fault [] = None
first_own_fault ((v, Faulted fault) ∷ rest) = Some (value_fault v.number v.key fault)
first_own_fault ((v, Done value) ∷ rest) = first_own_fault rest
first_own_fault ((v, Poisoned) ∷ rest) = first_own_fault rest

-- the slots in the end: those of the last versions, else the input
abbrev pub last_slots : Model → Cells → Slots
last_slots model input = slots_after model (keys_of input) (versions model (keys_of input)) (given_slots input)

-- the cells that are there in the end
abbrev pub last_set : List Tuple → List LeftAct → List Tuple
last_set = fold (λ set act. act.set)

-- a cell with the values of its last versions; it counts as updated where it has a version
abbrev pub last_cell : Model → List Version → Slots → Tuple → OutCell
last_cell model vs slots key =
    record {
      key = key;
      measures = map (λ m. done_value (slots (record { key = key; measure = m }))) (range_with_len 0 (length model.part.measures));
      updated = is_among (map (λ v. v.key) vs) key;
    }

abbrev pub last_cells : Model → Cells → List OutCell
last_cells model input =
    let keys = keys_of input in
    map (last_cell model (versions model keys) (last_slots model input)) (last_set keys (left_walk model keys).acts)

-- why there is no result: a version's own fault comes before that of the walk
abbrev pub history_fault : Model → Cells → Option Placed
history_fault model input = option_or (first_own_fault (history model input)) (left_walk model (keys_of input)).fault

-- what the last versions come to
abbrev pub last_versions : Model → Cells → Result (List OutCell) Placed
last_versions model input = option_map_or Err (history_fault model input) (Ok (last_cells model input))

-- what the versions of a partition make of it, where the rules may begin with its input
abbrev pub result_of_versions : Model → PartInput → PartResult
result_of_versions model p = part_result p.key (option_map_or Err (input_fault p) (last_versions model p.cells))
