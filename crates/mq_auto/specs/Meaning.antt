-- What is found of a partition, and what stands in a store of its cells then.
use Rattle.std.specs.Prelude.{◌≡◌, Result, Ok, Err}
use Rattle.std.specs.Option.{option_map}
use Rattle.mq_auto.specs.declared.verdict.Verdict.{Verdict}
use Rattle.mq_auto.specs.declared.verdict.Verdict.TheVariants.{Done, Broken}
use Rattle.mq_ir.specs.declared.query.CellName.{CellName}
use Rattle.mq_ir.specs.declared.query.Look.TheVariants.{Measure}
use Rattle.mq_ir.specs.declared.query.PartInput.{PartInput}
use Rattle.mq_ir.specs.declared.query.PartResult.{PartResult}
use Rattle.mq_ir.specs.declared.query.PartShape.{PartShape}
use Rattle.mq_ir.specs.Automatic.{node_looks, shape_found, slot_cells, slots_in}
use Rattle.mq_ir.specs.Iteration.{part_result}
use Rattle.mq_ir.specs.Partitions.{Cells, Tuple, cell_at}
use Rattle.mq_ir.specs.Placed.{Placed, at_partition}
use Rattle.mq_ir.specs.Slots.{Slots}
use Rattle.mq_ir.specs.Unfolding.{Model}
use Rattle.mq_cells.specs.Stores.{CellInput, Results}

-- a shape, or the fault of the partition with this key
abbrev pub judged : Tuple → Result PartShape Placed → Verdict
judged key (Ok shape) = Done shape
judged key (Err fault) = Broken (at_partition key fault)

-- what is found of a partition: its shape, or the first fault of the input or the shape, or CYCLE
abbrev pub verdict_on : Model → PartInput → Verdict
verdict_on model p = judged p.key (shape_found model p)

-- what holds of the shape, where there is one
abbrev pub IfDone : Verdict → (PartShape → Type 0) → Type 0
IfDone (Done shape) P = P shape
IfDone (Broken fault) P = Unit {0}

-- what is to stand at a measure: its slot in the end where a rule assigns it, else nothing
abbrev pub result_at : Model → PartShape → Cells → Results
result_at model shape input c = option_map (λ looks. slots_in model shape input c) (node_looks model shape (Measure c))

-- a store of cells over this input holds the automatic values at exactly the assigned measures
pub record HoldsValues (model : Model) (shape : PartShape) (input : Cells) (given : CellInput) (results : Results) : Type 0 where
  pub given_is : given ≡ cell_at input
  pub results_are : (c : CellName) → results c ≡ result_at model shape input c

-- the cells of a shape with these slots, or the first fault among them, in the partition with this key
abbrev pub result_with : Model → Tuple → PartShape → Slots → PartResult
result_with model key shape slots = part_result key (slot_cells model shape slots)
