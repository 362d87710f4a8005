-- What is kept of a view with MODEL, and when it is right.
use Rattle.std.specs.Prelude.{◌≡◌, ℕ, Bool, true, false, List, length, map, None, Option, Some, Result, Ok, Err, IfSome, is_ok}
use Rattle.std.specs.declared.alloc.Global.{Global}
use Rattle.std.specs.declared.sync.Arc.{Arc}
use Rattle.std.specs.List.{All}
use Rattle.std.specs.Map.{keys_of}
use Rattle.mq_values.specs.Answers.{result_map}
use Rattle.mq_values.specs.declared.faults.QueryFault.{QueryFault}
use Rattle.mq_values.specs.declared.memory.Fail.{Fail}
use Rattle.mq_values.specs.declared.memory.Fail.TheVariants as fail
use Rattle.mq_ir.specs.declared.query.Answer.TheVariants.{Fault}
use Rattle.mq_ir.specs.declared.query.BoundQuery.{BoundQuery}
use Rattle.mq_ir.specs.declared.query.ModelPart.{ModelPart}
use Rattle.mq_ir.specs.declared.query.OutCell.{OutCell}
use Rattle.mq_ir.specs.declared.query.PartInput.{PartInput}
use Rattle.mq_ir.specs.declared.query.PartResult.TheVariants as part
use Rattle.mq_ir.specs.Answer.{answer_of, columns_of, result_in, returned}
use Rattle.mq_ir.specs.Automatic.{levelled_shape}
use Rattle.mq_ir.specs.Explaining.{model_with_items}
use Rattle.mq_ir.specs.Iteration.{input_fault}
use Rattle.mq_ir.specs.Partitions.{Tuple, partitions}
use Rattle.mq_ir.specs.Ready.{IsReady}
use Rattle.mq_ir.specs.Tables.{Tables, rows_of}
use Rattle.mq_ir.specs.Unfolding.{Model}
use Rattle.mq_cells.specs.IndexedStores.{input_in, results_of}
use Rattle.mq_auto.specs.Findings.{IsLevelled}
use Rattle.mq_auto.specs.Meaning.{HoldsValues}
use Rattle.mq_delta_cells.specs.Courses.{IsCourse}
use Rattle.mq_delta_items.specs.Lines.{GoesByRow, lines_of}
use Rattle.mq_sources.specs.References.{cells_of_arrays}
use Rattle.mq_kept.specs.declared.kept_view.KeptPart.{KeptPart}
use Rattle.mq_kept.specs.declared.kept_view.KeptView.{KeptView}
use Rattle.mq_kept.specs.declared.kept_view.PartState.{PartState}
use Rattle.mq_kept.specs.declared.kept_view.PartState.TheVariants.{NotKept, Automatic, Made}
use Rattle.mq_kept.specs.declared.kept_view.ShapedCells.{ShapedCells}
use Rattle.mq_kept.specs.declared.kept_view.SharedShape.{SharedShape}
use Rattle.mq_kept.specs.declared.kept_view.ShownRows.{ShownRows}

-- ---- a partition

-- a shape of the model with its rounds and its indexes, and its course where it has one
pub record IsShared (model : Model) (shape : SharedShape) : Type 0 where
  pub levelled : IsLevelled model shape.found
  pub course : IfSome shape.course (IsCourse model shape.found.shape)

-- a shape that was found before is one
abbrev pub IsServing : Model → Option (Arc SharedShape Global) → Type 0
IsServing model last = IfSome last (λ shape. IsShared model shape.value)

-- an input without a fault of its own, and its shape
pub record HasShape (model : Model) (input : PartInput) (shape : SharedShape) : Type 0 where
  pub faultless : input_fault input ≡ None
  pub shaped : levelled_shape model (keys_of input.cells) ≡ Ok shape.found.shape
  pub shared : IsShared model shape

-- the shape of an input in automatic order, or the fault that its rules come to
abbrev pub IsShapeFound : Model → PartInput → Result (Arc SharedShape Global) QueryFault → Type 0
IsShapeFound model input (Ok shape) = HasShape model input shape.value
IsShapeFound model input (Err fault) = part.Fault fault ≡ result_in model input

-- an input in automatic order without a fault of its own, its shape, and a store with its automatic values
pub record HasValues (model : Model) (input : PartInput) (kept : ShapedCells) : Type 0 where
  pub automatic : model.part.auto ≡ true
  pub shape : HasShape model input kept.shape.value
  pub values : HoldsValues model kept.shape.value.found.shape input.cells (input_in kept.cells) (results_of kept.cells)

-- what was found of an input is what the model makes of it
abbrev pub IsFound : Model → PartInput → PartState → Type 0
IsFound model input NotKept = Unit {0}
IsFound model input (Automatic kept) = HasValues model input kept
IsFound model input (Made made) = made ≡ result_in model input

-- the rows that the cells of a partition add to an answer, and how many cells these are
pub record IsShown (model : Model) (input : PartInput) (shown : ShownRows) : Type 0 where
  pub cells : List OutCell
  pub made : result_in model input ≡ part.Rows cells
  pub count : shown.count ≡ length cells
  pub rows : shown.rows ≡ map (columns_of input.key) (returned model.part cells)

-- the rules may run over the input of a partition, and what was found of it is right
pub record IsRight (model : Model) (part : KeptPart) : Type 0 where
  pub ready : IsReady model.part part.input
  pub found : IsFound model part.input part.state
  pub shown : IfSome part.shown (IsShown model part.input)

abbrev pub is_settled : PartState → Bool
is_settled NotKept = false
is_settled (Automatic kept) = true
is_settled (Made made) = true

-- a partition of which nothing was found yet
abbrev pub unsettled : PartInput → KeptPart
unsettled input = record { input = input; state = NotKept; shown = None }

-- ---- a view

abbrev pub model_with : ModelPart → List (List Tuple) → List (List (Tuple × Tuple)) → Model
model_with part lists refs = record { part = part; lists = lists; refs = refs }

-- the model with the lists and arrays that are kept
abbrev pub model_in : ModelPart → KeptView → Model
model_in part kept = model_with part kept.lists (cells_of_arrays kept.refs)

abbrev pub inputs_of : List KeptPart → List PartInput
inputs_of parts = map (λ part. part.input) parts

-- what is kept of each partition is right for the model that is kept
abbrev pub AllRight : ModelPart → KeptView → Type 0
AllRight part kept = All (IsRight (model_in part kept)) kept.parts

-- what a query with MODEL reads of tables: the inputs of its partitions, and its model with the lists and arrays; or its first fault
abbrev pub read_over : Tables → BoundQuery → ModelPart → Result (List PartInput × Model) QueryFault
read_over tables q part = result_map (λ found. (partitions part found.0, found.1)) (model_with_items tables q part)

-- the same as it is kept
abbrev pub view_in : ModelPart → KeptView → List PartInput × Model
view_in part kept = (inputs_of kept.parts, model_in part kept)

-- these are the lines of a query that takes the rows of one table
pub record AreLinesOver (tables : Tables) (q : BoundQuery) (lines : List (Option Tuple)) : Type 0 where
  pub table : List ℕ
  pub by_row : GoesByRow q.from q.items table
  pub lines_are : lines_of q.from q.items (rows_of tables table) ≡ Some lines

-- what is kept of a view is what its query reads of these tables, and right
pub record IsKept (tables : Tables) (q : BoundQuery) (part : ModelPart) (kept : KeptView) : Type 0 where
  pub read : read_over tables q part ≡ Ok (view_in part kept)
  pub right : AllRight part kept
  pub lines : IfSome kept.lines (AreLinesOver tables q)

-- what is kept of a view from now on, or the fault that its query answers
abbrev pub IsBegun : Tables → BoundQuery → ModelPart → Result KeptView (Fail QueryFault) → Type 0
IsBegun tables q part (Ok kept) = IsKept tables q part kept
IsBegun tables q part (Err (fail.Cause fault)) = answer_of tables q ≡ Fault fault
IsBegun tables q part (Err fail.Memory) = Unit {0}

-- a view is kept exactly where its query reads these tables without a fault
abbrev pub IsFollowed : Tables → BoundQuery → ModelPart → Option KeptView → Type 0
IsFollowed tables q part (Some kept) = IsKept tables q part kept
IsFollowed tables q part None = is_ok (read_over tables q part) ≡ false
