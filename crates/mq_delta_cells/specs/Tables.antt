-- Numbers at measures of cells, by the places of the cells among keys, and elsewhere by their names.
use Rattle.std.specs.Prelude.{◌≡◌, ℕ, List, [], Option, Some, is_some, Bool, if◌then◌else◌}
use Rattle.std.specs.Option.{option_map_or}
use Rattle.mq_dim_index.specs.Places.{place_of}
use Rattle.mq_ir.specs.declared.query.CellName.{CellName}
use Rattle.mq_ir.specs.declared.query.Look.TheVariants.{Measure}
use Rattle.mq_ir.specs.declared.query.PartShape.{PartShape}
use Rattle.mq_ir.specs.Automatic.{rule_at}
use Rattle.mq_ir.specs.Keys.{Tuple}
use Rattle.mq_cells.specs.LaneItems.{Lanes, lane_item}
use Rattle.mq_cells.specs.Stores.{is_named}
use Rattle.mq_delta_cells.specs.Nodes.{Nodes, number_in}

-- the numbers of each measure at the places of cells, and those of cells that have no place
pub record Table : Type 0 where
  pub lanes : Lanes ℕ
  pub elsewhere : Nodes

-- no measure has a number
abbrev pub no_numbers : Table
no_numbers = record { lanes = []; elsewhere = [] }

-- the number of a measure, where it has one
abbrev pub number_by : List Tuple → Table → CellName → Option ℕ
number_by keys table c = option_map_or (lane_item table.lanes c.measure) (place_of keys c.key) (number_in table.elsewhere c)

abbrev pub is_in_table : List Tuple → Table → CellName → Bool
is_in_table keys table c = is_some (number_by keys table c)

-- the measures after differ from those before in this one alone, which has the number now
abbrev pub NumbersBy : List Tuple → Table → Table → CellName → ℕ → Type 0
NumbersBy keys before after name number =
    (c : CellName) → number_by keys after c ≡ (if is_named name c then Some number else number_by keys before c)

-- a table has the rules of a shape by the measures that they assign
abbrev pub HasRulesOf : PartShape → List Tuple → Table → Type 0
HasRulesOf shape keys table = (c : CellName) → number_by keys table c ≡ rule_at shape (Measure c)
