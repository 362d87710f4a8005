-- What a walk over a shape goes by.
use Rattle.std.specs.Prelude.{◌≡◌, true, List, [], map, IfSome}
use Rattle.std.specs.List.{All}
use Rattle.std.specs.Option.{option_map_or}
use Rattle.mq_ir.specs.declared.query.Look.{Look}
use Rattle.mq_ir.specs.declared.query.PartShape.{PartShape}
use Rattle.mq_ir.specs.Keys.{Tuple}
use Rattle.mq_ir.specs.Looks.{looks_of}
use Rattle.mq_ir.specs.Shape.{Assignment}
use Rattle.mq_ir.specs.Unfolding.{Model}
use Rattle.mq_cells.specs.Ascents.{CellsAscend}
use Rattle.mq_auto.specs.Walks.{AreOwn}
use Rattle.mq_auto_shape.specs.Edges.{looks_by, rule_by}
use Rattle.mq_auto_shape.specs.Found.{AreRoundsOf, IsRuled}
use Rattle.mq_refs.specs.Sites.{site_with}
use Rattle.mq_delta_cells.specs.declared.course.Course.{Course}
use Rattle.mq_delta_cells.specs.Readers.{HasReadersOf}
use Rattle.mq_delta_cells.specs.Tables.{HasRulesOf}

-- what the rule of an assignment looks at among these cells: over the cells of a shape it is `looks_by` of that
abbrev pub looks_among : Model → List Tuple → Assignment → List Look
looks_among model set a = option_map_or (λ rule. looks_of (site_with model 0 a.0 set) rule.right) (rule_by model a) []

-- the course of a shape in which no measure of a cell is assigned twice, and each by a rule of the model
pub record IsCourse (model : Model) (shape : PartShape) (course : Course) : Type 0 where
  pub own : AreOwn shape
  pub ruled : All (IsRuled model) shape.assigned
  -- its keys
  pub base : course.base ≡ shape.base
  pub cells : course.cells ≡ shape.cells
  pub rounds : AreRoundsOf model shape course.rounds
  -- what each assignment looks at, in their order, where that is gathered
  pub looks : IfSome course.looks (λ looks. looks ≡ map (looks_by model shape) shape.assigned)
  -- .. and who looks at a measure
  pub readers : HasReadersOf course.cells (map (looks_by model shape) shape.assigned) course.readers
  pub rules : HasRulesOf shape course.cells course.rules
  -- what is said to be known of the references holds
  pub refs : course.refs.ascend ≡ true → All CellsAscend model.refs

-- it is a course of whatever the other is one of
abbrev pub stays_course : Course → Course → Type 0
stays_course before after = (model : Model) (shape : PartShape) → IsCourse model shape before → IsCourse model shape after
