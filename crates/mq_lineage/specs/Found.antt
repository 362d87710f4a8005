-- A shape that the rules make, without a cycle.
use Rattle.std.specs.Prelude.{◌≡◌, None, Ok}
use Rattle.std.specs.List.{All}
use Rattle.mq_ir.specs.declared.query.PartInput.{PartInput}
use Rattle.mq_ir.specs.declared.query.PartShape.{PartShape}
use Rattle.mq_ir.specs.Automatic.{cycle_in, levelled_shape, shape_found}
use Rattle.mq_ir.specs.Ready.{IsReady}
use Rattle.mq_ir.specs.Rising.{Rising}
use Rattle.mq_ir.specs.Shape.{cmp_assignment}
use Rattle.mq_ir.specs.Unfolding.{Model}
use Rattle.mq_auto.specs.declared.verdict.Verdict.TheVariants.{Done}
use Rattle.mq_auto.specs.Meaning.{verdict_on}
use Rattle.mq_auto.specs.Walks.{AreOwn}
use Rattle.mq_auto_shape.specs.Conditions.{AreReady}
use Rattle.mq_auto_shape.specs.Found.{AreThere, IsRuled}

-- its assignments ascend, each of a cell that is there, by a rule of the model, no measure twice, and none is on a cycle
pub record IsFound (model : Model) (shape : PartShape) : Type 0 where
  pub levelled : cycle_in model shape ≡ None
  pub ascend : Rising cmp_assignment shape.assigned
  pub ruled : All (IsRuled model) shape.assigned
  pub own : AreOwn shape
  pub there : AreThere shape.cells shape.assigned

-- what a derivation asks of a shape
pub record MayBeDerived (model : Model) (p : PartInput) (shape : PartShape) : Type 0 where
  pub ready : AreReady model.part shape.base
  pub found : Ok shape ≡ levelled_shape model shape.base
  pub whole : shape_found model p ≡ Ok shape

-- The shape that is found of a partition on which the rules may run is such a one.
abbrev pub FoundMayBeDerived : Model → PartInput → PartShape → Type 0
FoundMayBeDerived model p shape = IsReady model.part p → Done shape ≡ verdict_on model p → MayBeDerived model p shape
