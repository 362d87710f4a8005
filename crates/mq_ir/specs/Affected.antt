-- What a change of a partition's input reaches.
use Rattle.std.specs.Prelude.{ℕ, List, Bool, true, false, ◌&&◌, [], ◌||◌, not, ◌==◌, Option, Some, None, unwrap_or}
use Rattle.std.specs.Cmp.Lexicographic.{pointwise}
use Rattle.std.specs.Ordering.{is_ne}
use Rattle.mq_values.specs.Order.{cmp_value}
use Rattle.mq_ir.specs.declared.query.CellName.{CellName}
use Rattle.mq_ir.specs.declared.query.Look.{Look}
use Rattle.mq_ir.specs.declared.query.Look.TheVariants.{Measure, Presence}
use Rattle.mq_ir.specs.declared.query.PartShape.{PartShape}
use Rattle.mq_ir.specs.Automatic.{node_looks, round_count, rule_at}
use Rattle.mq_ir.specs.Keys.{is_among, is_same}
use Rattle.mq_ir.specs.Partitions.{Tuple, Cells}
use Rattle.mq_ir.specs.Reads.{measure_at}
use Rattle.mq_ir.specs.Rounds.{affected}
use Rattle.mq_ir.specs.Unfolding.{Model}

-- an input of a partition with its shape
pub record Side : Type 0 where
  pub shape : PartShape
  pub input : Cells

abbrev pub is_same_look : Look → Look → Bool
is_same_look (Measure a) (Measure b) = is_same a.key b.key && (a.measure == b.measure)
is_same_look (Presence a) (Presence b) = is_same a b
is_same_look _ _ = false

abbrev pub are_same_looks : List Look → List Look → Bool
are_same_looks = pointwise is_same_look

abbrev pub looks_or_none : Option (List Look) → List Look
looks_or_none looks = unwrap_or looks []

abbrev pub is_in_one : List Tuple → List Tuple → Tuple → Bool
is_in_one a b key = (is_among a key && not (is_among b key)) || (is_among b key && not (is_among a key))

abbrev pub is_in_both : List Tuple → List Tuple → Tuple → Bool
is_in_both a b key = is_among a key && is_among b key

-- a measure that no rule assigns: its cell is in one input alone, or has another value
abbrev pub input_differs : Side → Side → CellName → Bool
input_differs old new c =
    is_in_one old.shape.base new.shape.base c.key
    || (is_in_both old.shape.base new.shape.base c.key && is_ne (cmp_value (measure_at old.input c) (measure_at new.input c)))

-- how a measure is assigned in the two shapes: by other rules, or by one that looks elsewhere
abbrev pub assignment_differs : Model → Side → Side → CellName → Option ℕ → Option ℕ → Bool
assignment_differs model old new c None None = input_differs old new c
assignment_differs model old new c None (Some b) = true
assignment_differs model old new c (Some a) None = true
assignment_differs model old new c (Some a) (Some b) =
    let looks : Side → List Look = λ side. looks_or_none (node_looks model side.shape (Measure c)) in
    not (a == b) || not (are_same_looks (looks old) (looks new))

-- where a change begins
abbrev pub is_seed : Model → Side → Side → Look → Bool
is_seed model old new (Presence key) = is_in_one old.shape.base new.shape.base key
is_seed model old new (Measure c) =
    is_in_one old.shape.cells new.shape.cells c.key
    || (is_in_both old.shape.cells new.shape.cells c.key
    && assignment_differs model old new c (rule_at old.shape (Measure c)) (rule_at new.shape (Measure c)))

-- what it reaches: the seeds, and each assigned measure of the new shape that looks at what it reaches
abbrev pub is_affected : Model → Side → Side → Look → Bool
is_affected model old new = affected (node_looks model new.shape) (is_seed model old new) (round_count new.shape)
