-- What stands in a store of cells, and what is known to have changed, while a walk goes round by round over what a change reaches.
use Rattle.std.specs.Prelude.{◌≡◌, ℕ, ◌-◌, Bool, true, false, ◌||◌, List, None, Some, slice_get, if◌then◌else◌}
use Rattle.std.specs.List.{All, list_any}
use Rattle.std.specs.Option.{option_map_or}
use Rattle.mq_ir.specs.declared.query.CellName.{CellName}
use Rattle.mq_ir.specs.declared.query.Look.{Look}
use Rattle.mq_ir.specs.declared.query.Look.TheVariants.{Measure, Presence}
use Rattle.mq_ir.specs.declared.query.PartShape.{PartShape}
use Rattle.mq_ir.specs.declared.query.Rule.{Rule}
use Rattle.mq_ir.specs.Automatic.{node_looks, node_of}
use Rattle.mq_ir.specs.Partitions.{Cells, cell_at}
use Rattle.mq_ir.specs.Rounds.{levelled}
use Rattle.mq_ir.specs.Shape.{Assignment}
use Rattle.mq_ir.specs.Unfolding.{Model, model_of}
use Rattle.mq_cells.specs.Stores.{CellInput, Results, name_assigned}
use Rattle.mq_auto.specs.Meaning.{result_at}
use Rattle.mq_auto.specs.Walks.{IsPut}
use Rattle.mq_auto_shape.specs.Edges.{looks_by}
use Rattle.mq_refs.specs.Sightings.{measures_in}
use Rattle.mq_delta_cells.specs.Bounds.{is_reached, reads_for}
use Rattle.mq_delta_cells.specs.Marks.{Marks, MarksBy, is_marked}
use Rattle.mq_delta_cells.specs.Readers.{is_due}
use Rattle.mq_delta_cells.specs.Seeds.{is_told, is_told_outside}
use Rattle.mq_delta_cells.specs.declared.work.Work.{Work}

-- What a walk goes by: a model at work on a shape, where a change begins, and what it is known to begin with at a look that no
-- rule assigns.
pub record Ground : Type 0 where
  pub model : Model
  pub shape : PartShape
  pub told : Look → Bool
  pub outside : Look → Bool

-- the model at work
abbrev pub model_at : Work → Model
model_at work = model_of work.model.now

-- a change of the shape, and what moved
abbrev pub ground_for : Model → PartShape → PartShape → List CellName → Ground
ground_for model old new moved =
    record { model = model; shape = new; told = is_told model old new moved; outside = is_told_outside old new moved }

abbrev pub ground_of : Work → Ground
ground_of work = ground_for (model_at work) work.seeds.now.old.now work.shape.now work.seeds.now.moved.now

-- what the change reaches
abbrev pub reached_on : Ground → Look → Bool
reached_on ground = is_reached ground.model ground.shape ground.told

-- a measure is among what changed, by the places of the cells of the shape
abbrev pub is_changed : Ground → Marks → CellName → Bool
is_changed ground changed c = is_marked ground.shape.cells changed c

-- what is known of a look: it is among what changed, or the change begins there
abbrev pub is_known_in : Ground → Marks → Look → Bool
is_known_in ground changed (Measure c) = is_changed ground changed c || ground.outside (Measure c)
is_known_in ground changed (Presence key) = ground.outside (Presence key)

-- whether the change reaches an assignment, by what is known of its looks
abbrev pub is_hit : Ground → Marks → Assignment → Bool
is_hit ground changed a = ground.told (node_of a) || list_any (is_known_in ground changed) (looks_by ground.model ground.shape a)

-- what is not due the change does not reach, by what is known
abbrev pub IsDue : Ground → Marks → List Bool → Type 0
IsDue ground changed due =
    (place : ℕ) (a : Assignment) → slice_get ground.shape.assigned place ≡ Some a → is_due due place ≡ false
    → is_hit ground changed a ≡ false

-- the number of measures that are read for an assignment at most, by what is known of its looks
abbrev pub reads_of_hit : Ground → Marks → Assignment → ℕ
reads_of_hit ground changed a = if is_hit ground changed a then measures_in (looks_by ground.model ground.shape a) else 0

-- Before the walk each measure that the change does not reach has what is to stand there, and nothing stands where nothing is
-- assigned.
pub record BeginsRight (ground : Ground) (input : Cells) (results : Results) : Type 0 where
  pub unreached : (c : CellName) → reached_on ground (Measure c) ≡ false
      → results c ≡ result_at ground.model ground.shape input c
  pub unruled : (c : CellName) → node_looks ground.model ground.shape (Measure c) ≡ None → results c ≡ None

-- what is known of a measure is right, and what stands there is where the walk began right; it began with the results `first`
pub record IsRight (ground : Ground) (given : CellInput) (first : Results) (changed : Marks) (results : Results)
    (c : CellName) : Type 0 where
  pub known : is_known_in ground changed (Measure c) ≡ reached_on ground (Measure c)
  pub result : (input : Cells) → given ≡ cell_at input → BeginsRight ground input first
      → results c ≡ result_at ground.model ground.shape input c

-- .. of the measure of the assignment at this place
abbrev pub IsRightAt : Ground → CellInput → Results → Marks → Results → ℕ → Type 0
IsRightAt ground given first changed results place =
    (a : Assignment) → slice_get ground.shape.assigned place ≡ Some a → IsRight ground given first changed results (name_assigned a)

-- n rounds are done, and of the next one these places
pub record IsWalked (ground : Ground) (given : CellInput) (first : Results) (n : ℕ) (places : List ℕ)
    (changed : Marks) (results : Results) : Type 0 where
  -- what changed is reached, and what did not is as it was
  pub sound : (c : CellName) → is_changed ground changed c ≡ true → reached_on ground (Measure c) ≡ true
  pub kept : (c : CellName) → is_changed ground changed c ≡ false → results c ≡ first c
  pub below : (c : CellName) → levelled (node_looks ground.model ground.shape) n (Measure c) ≡ true
      → IsRight ground given first changed results c
  pub met : All (IsRightAt ground given first changed results) places

-- the slot of an assignment is put, which is among what changed then
pub record IsAssigned (ground : Ground) (given : CellInput) (before after : Results) (changed next : Marks) (a : Assignment) : Type 0 where
  pub put : (rule : Rule) → slice_get ground.model.part.rules (a.2 - 1) ≡ Some rule
      → IsPut ground.model ground.shape given before after a rule
  pub noted : MarksBy ground.shape.cells changed next (name_assigned a)

-- an assignment is visited: where the change reaches it its slot is put, and else nothing changes
pub record IsVisited (ground : Ground) (given : CellInput) (before after : Results) (changed next : Marks) (a : Assignment) : Type 0 where
  pub hit : is_hit ground changed a ≡ true → IsAssigned ground given before after changed next a
  pub missed : is_hit ground changed a ≡ false → (next ≡ changed) × (after ≡ before)

-- the number of measures that are read for the assignment at a place at most
abbrev pub reads_at : Ground → ℕ → ℕ
reads_at ground place = option_map_or (reads_for ground.model ground.shape (reached_on ground)) (slice_get ground.shape.assigned place) 0
