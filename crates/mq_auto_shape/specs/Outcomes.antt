-- What the steps towards a shape give.
use Rattle.std.specs.Prelude.{◌≡◌, ℕ, List, Option, Some, None, Result, Ok, Err}
use Rattle.std.specs.List.{All, find}
use Rattle.std.specs.List.Sorted.{IsStrictlySortedBy}
use Rattle.std.specs.Option.{option_map}
use Rattle.mq_values.specs.declared.faults.FaultKind.TheVariants as kind
use Rattle.mq_values.specs.declared.memory.Fail.{Fail}
use Rattle.mq_values.specs.declared.memory.Fail.TheVariants as fail
use Rattle.mq_values.specs.Order.{cmp_key}
use Rattle.mq_ir.specs.declared.query.PartShape.{PartShape}
use Rattle.mq_ir.specs.Keys.{Tuple}
use Rattle.mq_ir.specs.Placed.{Placed, placed_fault}
use Rattle.mq_ir.specs.Shape.{Assignment, assigns, cmp_by_rule, least_of}
use Rattle.mq_ir.specs.Unfolding.{Model}
use Rattle.mq_levels.specs.declared.dealing.Leveled.{Leveled}
use Rattle.mq_auto_shape.specs.Found.{AreThere, IsRuled}

-- the call gave something with the shape that is meant, or the fault, unless memory ran out
abbrev pub FindsShape : {A : Type 0} → (A → PartShape) → Result A (Fail Placed) → Result PartShape Placed → Type 0
FindsShape shape (Ok it) meant = meant ≡ Ok (shape it)
FindsShape shape (Err (fail.Cause fault)) meant = meant ≡ Err fault
FindsShape shape (Err fail.Memory) meant = Unit {0}

-- the call gave rounds where there is no cycle, or the cycle, unless memory ran out
abbrev pub FindsLevels : Result Leveled (Fail Placed) → Option Placed → Type 0
FindsLevels (Ok leveled) cycle = cycle ≡ None
FindsLevels (Err (fail.Cause fault)) cycle = cycle ≡ Some fault
FindsLevels (Err fail.Memory) cycle = Unit {0}

-- what holds of a shape that has grown from an input with these keys
pub record IsGrown (model : Model) (keys : List Tuple) (shape : PartShape) : Type 0 where
  pub base : shape.base ≡ keys
  pub ascend : IsStrictlySortedBy cmp_key shape.cells
  pub own : All (λ a. find (assigns a.1 a.0) shape.assigned ≡ Some a) shape.assigned
  pub ruled : All (IsRuled model) shape.assigned
  pub there : AreThere shape.cells shape.assigned

-- CYCLE at the least (rule, cell) of these
abbrev pub cycle_at : List Assignment → Option Placed
cycle_at unlevelled = option_map (λ a. placed_fault a.2 a.0 kind.Cycle) (least_of cmp_by_rule unlevelled)

-- the rule and the cell of an assignment
abbrev pub by_rule : Assignment → ℕ × Tuple
by_rule a = (a.2, a.0)
