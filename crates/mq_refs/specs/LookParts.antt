-- The looks of a right side as parts: single measures, and runs of cells at one measure.
use Rattle.std.specs.Prelude.{ℕ, ◌-◌, ◌≤◌, Bool, false, List, [], ◌∷◌, drop, slice_index_or, take}
use Rattle.std.specs.List.{filter, flat_map}
use Rattle.mq_ir.specs.declared.expression.Leaf.{Leaf}
use Rattle.mq_ir.specs.declared.query.Look.{Look}
use Rattle.mq_ir.specs.declared.query.Look.TheVariants as look
use Rattle.mq_ir.specs.Keys.{Tuple}
use Rattle.mq_ir.specs.Looks.{leaf_looks, looks_at}
use Rattle.mq_ir.specs.Reads.{Site}
use Rattle.mq_refs.specs.declared.parts.LookPart.{LookPart}
use Rattle.mq_refs.specs.declared.parts.LookPart.TheVariants as part

-- the looks that a part stands for, among these cells
abbrev pub looks_of_part : List Tuple → LookPart → List Look
looks_of_part set (part.Measure c) = look.Measure c ∷ []
looks_of_part set (part.Run m first past) = looks_at m (take (past - first) (drop first set))

-- the looks that parts stand for, in their order
abbrev pub looks_in : List Tuple → List LookPart → List Look
looks_in set parts = flat_map (looks_of_part set) parts

-- a look at a measure that is asked for
abbrev pub is_wanted : List Bool → Look → Bool
is_wanted wanted (look.Measure c) = slice_index_or wanted c.measure false
is_wanted wanted (look.Presence key) = false

-- the looks of a leaf that are asked for
abbrev pub wanted_looks : List Bool → Site → Leaf → List Look
wanted_looks wanted site l = filter (is_wanted wanted) (leaf_looks site l)

-- a run that ends among so many cells
abbrev pub is_within : ℕ → LookPart → Type 0
is_within count (part.Measure c) = Unit {0}
is_within count (part.Run m first past) = past ≤ count
