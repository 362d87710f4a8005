-- How many measures are read at most.
use Rattle.std.specs.Prelude.{ℕ, ◌+◌, List, [], ◌∷◌, Bool, if◌then◌else◌}
use Rattle.mq_ir.specs.declared.query.Look.{Look}
use Rattle.mq_ir.specs.declared.query.PartShape.{PartShape}
use Rattle.mq_ir.specs.Automatic.{node_looks, node_of, round_count}
use Rattle.mq_ir.specs.Rounds.{affected}
use Rattle.mq_ir.specs.Shape.{Assignment}
use Rattle.mq_ir.specs.Unfolding.{Model}
use Rattle.mq_auto_shape.specs.Edges.{looks_by}
use Rattle.mq_refs.specs.Sightings.{measures_in}

-- the sum of a number for each item
abbrev pub total : {X : Type 0} → (X → ℕ) → List X → ℕ
total f [] = 0
total f (x ∷ xs) = f x + total f xs

-- what a change reaches that begins at these
abbrev pub is_reached : Model → PartShape → (Look → Bool) → Look → Bool
is_reached model shape told = affected (node_looks model shape) told (round_count shape)

-- the number of measures that an assignment looks at, where the change reaches it
abbrev pub reads_for : Model → PartShape → (Look → Bool) → Assignment → ℕ
reads_for model shape reached a = if reached (node_of a) then measures_in (looks_by model shape a) else 0

-- .. of all that it reaches
abbrev pub most_reads : Model → PartShape → (Look → Bool) → ℕ
most_reads model shape reached = total (reads_for model shape reached) shape.assigned
