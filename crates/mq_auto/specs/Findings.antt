-- What is found on the way.
use Rattle.std.specs.Prelude.{◌≡◌, ◌≤◌, ℕ, false, List, length, Option, None, Result, Ok, Err}
use Rattle.std.specs.List.{list_any}
use Rattle.std.specs.Option.{option_and_then, option_map}
use Rattle.mq_ir.specs.declared.query.PartInput.{PartInput}
use Rattle.mq_ir.specs.declared.query.PartResult.{PartResult}
use Rattle.mq_ir.specs.declared.query.PartResult.TheVariants.{Fault}
use Rattle.mq_ir.specs.Automatic.{levelled_shape, own_fault, shape_found}
use Rattle.mq_ir.specs.Keys.{Tuple, is_among, is_same}
use Rattle.mq_ir.specs.Placed.{at_partition}
use Rattle.mq_ir.specs.Results.{marked}
use Rattle.mq_ir.specs.Shape.{Assignment}
use Rattle.mq_ir.specs.Slots.{Slots}
use Rattle.mq_ir.specs.Unfolding.{Model}
use Rattle.mq_auto_shape.specs.Found.{AreRoundsOf, shape_in}
use Rattle.mq_auto_shape.specs.Indexed.{IsIndexed, plain_found}
use Rattle.mq_auto_shape.specs.declared.indexed.IndexedShape.{IndexedShape}
use Rattle.mq_cells.specs.Stores.{Results, cell_name}
use Rattle.mq_cells.specs.declared.bounds.TheConstants.{MAX_ASSIGNMENTS}
use Rattle.mq_values.specs.declared.faults.QueryFault.{QueryFault}
use Rattle.mq_auto.specs.Walks.{AreOwn, AreRuled}

-- a shape of the model with its rounds and its indexes: it is what the keys of its input come to
pub record IsLevelled (model : Model) (found : IndexedShape) : Type 0 where
  pub exact : Ok found.shape ≡ levelled_shape model found.shape.base
  pub own : AreOwn found.shape
  pub ruled : AreRuled model found.shape
  pub few : length found.shape.assigned ≤ MAX_ASSIGNMENTS
  pub rounds : AreRoundsOf model found.shape found.leveled.rounds
  pub indexed : IsIndexed found

abbrev pub HasRounds : Model → Result IndexedShape QueryFault → Type 0
HasRounds model (Ok found) = IsLevelled model found
HasRounds model (Err fault) = Unit {0}

-- what is found of a partition: its shape or the first fault, and with the shape its rounds
pub record IsJudged (model : Model) (p : PartInput) (found : Result IndexedShape QueryFault) : Type 0 where
  pub exact : shape_in (plain_found found) ≡ marked (at_partition p.key) (shape_found model p)
  pub rounds : HasRounds model found

-- the fault of an assignment, in the partition with this key
abbrev pub faulted_at : Tuple → Slots → Option Assignment → Option PartResult
faulted_at key slots a = option_map (λ fault. Fault (at_partition key fault)) (option_and_then (own_fault slots) a)

-- a key is among these exactly where some measure of its cell is assigned
abbrev pub AreUpdated : List Assignment → List Tuple → Type 0
AreUpdated assigned keys = (key : Tuple) → is_among keys key ≡ list_any (λ a. is_same key a.0) assigned

-- no result stands at the cell of this key
abbrev pub StandsNowhere : Results → Tuple → Type 0
StandsNowhere results key = (m : ℕ) → results (cell_name key m) ≡ None

-- none stands at a cell of which no measure is assigned
abbrev pub StandWhereAssigned : List Assignment → Results → Type 0
StandWhereAssigned assigned results = (key : Tuple) → list_any (λ a. is_same key a.0) assigned ≡ false → StandsNowhere results key
