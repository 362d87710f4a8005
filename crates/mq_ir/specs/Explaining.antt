-- What EXPLAIN CELL prints.
use Rattle.std.specs.Prelude.{List, [], ◌∷◌, ◌++◌, map, length, if◌then◌else◌, Result, Ok, Err, slice_index_or}
use Rattle.std.specs.List.{find, zip}
use Rattle.std.specs.Option.{ok_or, option_map_or}
use Rattle.mq_values.specs.declared.faults.QueryFault.{QueryFault}
use Rattle.mq_values.specs.declared.faults.Refused.{Refused}
use Rattle.mq_values.specs.declared.faults.Refused.TheVariants as refused
use Rattle.mq_values.specs.declared.value.Kind.{Kind}
use Rattle.mq_ir.specs.declared.expression.Expr.{Expr}
use Rattle.mq_ir.specs.declared.query.BoundQuery.{BoundQuery}
use Rattle.mq_ir.specs.declared.query.CellName.{CellName}
use Rattle.mq_ir.specs.declared.query.DerivationStep.{DerivationStep}
use Rattle.mq_ir.specs.declared.query.Explained.{Explained}
use Rattle.mq_ir.specs.declared.query.Explained.TheVariants as explained
use Rattle.mq_ir.specs.declared.query.ModelPart.{ModelPart}
use Rattle.mq_ir.specs.declared.query.PartInput.{PartInput}
use Rattle.mq_ir.specs.declared.statement.CellAsked.{CellAsked}
use Rattle.mq_ir.specs.Answer.{model_over}
use Rattle.mq_ir.specs.Automatic.{shape_found}
use Rattle.mq_ir.specs.Derivations.{derivation}
use Rattle.mq_ir.specs.Items.{items_over, row_leaves}
use Rattle.mq_ir.specs.Keys.{is_among, is_same}
use Rattle.mq_ir.specs.Lines.{FaultLine, Line, StepCount, StepLine}
use Rattle.mq_ir.specs.Partitions.{Tuple, partitions}
use Rattle.mq_ir.specs.Placed.{at_partition, plain_fault}
use Rattle.mq_ir.specs.Results.{◌>>=◌, each, marked}
use Rattle.mq_ir.specs.Statement.{Printed, State, view_at}
use Rattle.mq_ir.specs.Tables.{Tables}
use Rattle.mq_ir.specs.Unfolding.{Model, converted}

-- the item rows of a query with its model as it is over these tables
abbrev pub model_with_items : Tables → BoundQuery → ModelPart → Result (List Tuple × Model) QueryFault
model_with_items tables q part =
    marked (plain_fault 0) (items_over tables q.from q.items) >>= (λ items. model_over tables part >>= (λ model. Ok (items, model)))

-- a measure of a cell of a partition: a fault of the partition's shape comes first, and then that the cell is not there
abbrev pub explained_in : Model → CellName → PartInput → Explained
explained_in model c p =
    elim (shape_found model p) [
      | Err fault ↦ explained.Fault (at_partition p.key fault)
      | Ok shape ↦
          if is_among shape.cells c.key then explained.Steps (record { steps = derivation model shape p.cells c }) else explained.NoCell
    ]

-- The derivation of a measure of a cell of this partition. A fault of the rows, the references or the FOR subqueries comes
-- before all else; faults of other partitions play no part.
abbrev pub explained_over : Tables → BoundQuery → ModelPart → Tuple → CellName → Explained
explained_over tables q part key c =
    elim (model_with_items tables q part) [
      | Err fault ↦ explained.Fault fault
      | Ok found ↦ option_map_or (explained_in found.1 c) (find (λ p. is_same key p.key) (partitions part found.0)) explained.NoPartition
    ]

-- the values that name a partition or a cell, each converted to the kind of its place
abbrev pub place_values : List Kind → List Expr → Result Tuple Refused
place_values kinds es = each (λ (k, e). marked (refused.ChangeValue 0) (converted (row_leaves []) k e)) (zip kinds es)

abbrev pub step_line : ModelPart → DerivationStep → Line
step_line part step = StepLine (slice_index_or part.names step.name.measure []) step

-- a step a line, and then their number; or the fault alone
abbrev pub explanation : State → ModelPart → Tuple → Tuple → Explained → Result Printed Refused
explanation state part key cell (explained.Steps d) = Ok (state, map (step_line part) d.steps ++ StepCount (length d.steps) ∷ [])
explanation state part key cell (explained.Fault fault) = Ok (state, FaultLine fault ∷ [])
explanation state part key cell explained.NoPartition = Err (refused.NoPartition key)
explanation state part key cell explained.NoCell = Err (refused.NoCell cell)

-- the values of the partition, and then those of the cell, come first
abbrev pub explain_step : State → CellAsked → Result Printed Refused
explain_step state asked =
    ok_or (view_at state asked.view) (refused.UnknownName asked.view) >>= (λ view.
    ok_or view.query.model (refused.UnknownName asked.view) >>= (λ part.
    place_values part.part_kinds asked.part >>= (λ key.
    place_values part.dims asked.cell >>= (λ cell.
    let name : CellName = record { key = cell; measure = asked.measure } in
    explanation state part key cell (explained_over state.tables view.query part key name)))))
