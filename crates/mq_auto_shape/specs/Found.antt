-- What is found of a model and the keys of an input: the shape, and the rounds in which its assignments are levelled.
use Rattle.std.specs.Prelude.{◌≡◌, ℕ, suc, ◌<◌, ◌≤◌, ◌-◌, Bool, true, false, ◌&&◌, not, List, [], length, Some, IsSome, Result, Ok, Err, slice_get, slice_index_or}
use Rattle.std.specs.List.{All, filter, find, range_with_len}
use Rattle.std.specs.List.Sorted.{IsStrictlySortedBy}
use Rattle.std.specs.Option.{option_map_or}
use Rattle.mq_values.specs.declared.faults.QueryFault.{QueryFault}
use Rattle.mq_values.specs.Order.{cmp_key}
use Rattle.mq_dim_index.specs.Places.{is_there}
use Rattle.mq_ir.specs.declared.query.PartShape.{PartShape}
use Rattle.mq_ir.specs.Automatic.{levelled_shape, node_looks, node_of}
use Rattle.mq_ir.specs.Keys.{Tuple}
use Rattle.mq_ir.specs.Placed.{at_partition}
use Rattle.mq_ir.specs.Results.{marked}
use Rattle.mq_ir.specs.Rounds.{levelled}
use Rattle.mq_ir.specs.Shape.{Assignment, assigns}
use Rattle.mq_ir.specs.Unfolding.{Model}
use Rattle.mq_levels.specs.declared.dealing.Leveled.{Leveled}
use Rattle.mq_cells.specs.declared.bounds.TheConstants.{MAX_ASSIGNMENTS}

-- a shape with its rounds, or a fault
abbrev pub Found : Type 0
Found = Result (PartShape × Leveled) QueryFault

-- the shape alone
abbrev pub shape_in : Found → Result PartShape QueryFault
shape_in (Ok it) = Ok it.0
shape_in (Err fault) = Err fault

-- the shape of an input with these keys, or its fault; the partition has the empty key
abbrev pub shape_meant : Model → List Tuple → Result PartShape QueryFault
shape_meant model keys = marked (at_partition []) (levelled_shape model keys)

-- what is levelled within n rounds
abbrev pub is_levelled : Model → PartShape → ℕ → Assignment → Bool
is_levelled model shape n a = levelled (node_looks model shape) n (node_of a)

-- an assignment comes in round n: it is levelled behind the round, and was not levelled before
abbrev pub comes_in : Model → PartShape → ℕ → Assignment → Bool
comes_in model shape n a = is_levelled model shape (suc n) a && not (is_levelled model shape n a)

-- the assignment at this place does
abbrev pub place_comes_in : Model → PartShape → ℕ → ℕ → Bool
place_comes_in model shape n place = option_map_or (comes_in model shape n) (slice_get shape.assigned place) false

-- the places of the assignments of round n, ascending
abbrev pub round_of : Model → PartShape → ℕ → List ℕ
round_of model shape n = filter (place_comes_in model shape n) (range_with_len 0 (length shape.assigned))

-- the rounds of a shape, as the places of the assignments that come in each
pub record AreRoundsOf (model : Model) (shape : PartShape) (rounds : List (List ℕ)) : Type 0 where
  -- every round; behind the last one there is none
  pub each : (n : ℕ) → slice_index_or rounds n [] ≡ round_of model shape n
  -- none is empty
  pub filled : All (λ round. 0 < length round) rounds
  -- every assignment comes in one of them
  pub complete : All (λ a. is_levelled model shape (length rounds) a ≡ true) shape.assigned

-- it is by a rule of the model, numbered from 1
abbrev pub IsRuled : Model → Assignment → Type 0
IsRuled model a = (0 < a.2) × IsSome (slice_get model.part.rules (a.2 - 1))

-- the cell of each assignment is among these
abbrev pub AreThere : List Tuple → List Assignment → Type 0
AreThere keys assigned = All (λ a. is_there keys a.0 ≡ true) assigned

-- what holds of a shape of an input with these keys
pub record IsShapeOf (model : Model) (keys : List Tuple) (shape : PartShape) : Type 0 where
  pub base : shape.base ≡ keys
  -- the cells ascend, each once
  pub ascend : IsStrictlySortedBy cmp_key shape.cells
  -- no measure of a cell is assigned twice: the assignment that is found first is this one
  pub own : All (λ a. find (assigns a.1 a.0) shape.assigned ≡ Some a) shape.assigned
  pub ruled : All (IsRuled model) shape.assigned
  -- a number is enough for each
  pub few : length shape.assigned ≤ MAX_ASSIGNMENTS
