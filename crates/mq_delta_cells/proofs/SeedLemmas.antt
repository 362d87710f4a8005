-- Where a change begins, as the shapes and what moved tell it, is where it begins by the inputs.
use Rattle.std.proofs.Common.{◌≡◌, ℕ, Bool, true, false, ◌&&◌, ◌||◌, not, List, Option, Some, None, refl, sym, ap, ◌∙◌}
use Rattle.std.specs.Map.{keys_of}
use Rattle.std.specs.Ordering.{is_ne}
use Rattle.mq_values.specs.Order.{cmp_value}
use Rattle.mq_ir.specs.declared.query.CellName.{CellName}
use Rattle.mq_ir.specs.declared.query.Look.{Look}
use Rattle.mq_ir.specs.declared.query.Look.TheVariants.{Measure, Presence}
use Rattle.mq_ir.specs.declared.query.PartShape.{PartShape}
use Rattle.mq_ir.specs.Affected.{assignment_differs, input_differs, is_in_both, is_in_one, is_seed}
use Rattle.mq_ir.specs.Automatic.{node_looks, round_count, rule_at}
use Rattle.mq_ir.specs.Keys.{Tuple, is_among}
use Rattle.mq_ir.specs.Partitions.{Cells}
use Rattle.mq_ir.specs.Reads.{measure_at}
use Rattle.mq_ir.specs.Rounds.{affected}
use Rattle.mq_ir.specs.Unfolding.{Model}
use Rattle.mq_change_laws.specs.ShapeLaws.{IsSound, ShapeIsSound}
use Rattle.mq_change_laws.specs.SoundLaws.{not_based, unplaced}
use Rattle.mq_delta_cells.specs.Bounds.{is_reached}
use Rattle.mq_delta_cells.specs.Changes.{has_moved, reaches, side_of}
use Rattle.mq_delta_cells.specs.Seeds.{is_moved, is_told, told_by}

-- the contract of `shapes_are_sound`
abbrev pub ShapesAreSound : Type 0
ShapesAreSound = (model : Model) (keys : List Tuple) (shape : PartShape) → ShapeIsSound model keys shape

module _ (model : Model) (old new : PartShape) (before after : Cells) (moved : List CellName)
    (was : IsSound model (keys_of before) old) (is : IsSound model (keys_of after) new)
    (moved_are : (c : CellName) → is_moved moved c ≡ has_moved before after c) where
  abbrev told : Look → Bool
  told = is_told model old new moved

  abbrev seed : Look → Bool
  seed = is_seed model (side_of old before) (side_of new after)

  -- a measure that neither shape assigns
  moved_is : (c : CellName) → (is_in_one old.base new.base c.key || is_moved moved c) ≡ input_differs (side_of old before) (side_of new after) c
  moved_is c =
      ap (λ b. is_in_one old.base new.base c.key || b)
      (moved_are c ∙ (λ i. is_in_both (sym was.base i) (sym is.base i) c.key && is_ne (cmp_value (measure_at before c) (measure_at after c))))

  -- one whose cell is in both shapes
  both_by : (c : CellName) (a b : Option ℕ) → told_by model old new moved c a b ≡ assignment_differs model (side_of old before) (side_of new after) c a b
  both_by c None None = moved_is c
  both_by c None (Some b) = refl
  both_by c (Some a) None = refl
  both_by c (Some a) (Some b) = refl

  -- one whose cell is in neither
  neither : (c : CellName) → is_among old.cells c.key ≡ false → is_among new.cells c.key ≡ false
      → told_by model old new moved c (rule_at old (Measure c)) (rule_at new (Measure c)) ≡ false
  neither c a b =
      let in_old : is_among old.base c.key ≡ false = not_based model (side_of old before) was c.key a in
      let in_new : is_among new.base c.key ≡ false = not_based model (side_of new after) is c.key b in
      (λ i. told_by model old new moved c (unplaced model (side_of old before) was c a i) (unplaced model (side_of new after) is c b i))
      ∙ moved_is c
      ∙ (λ i. ((in_old i && not (in_new i)) || (in_new i && not (in_old i)))
      || ((in_old i && in_new i) && is_ne (cmp_value (measure_at before c) (measure_at after c))))

  measure_by : (c : CellName) (a b : Bool) → is_among old.cells c.key ≡ a → is_among new.cells c.key ≡ b → told (Measure c) ≡ seed (Measure c)
  measure_by c true true e f = rw (e, f) (both_by c (rule_at old (Measure c)) (rule_at new (Measure c)))
  measure_by c true false e f = rw (e, f) refl
  measure_by c false true e f = rw (e, f) refl
  measure_by c false false e f = rw (e, f) (neither c e f)

  pub told_is : (t : Look) → told t ≡ seed t
  told_is (Presence key) = refl
  told_is (Measure c) = measure_by c (is_among old.cells c.key) (is_among new.cells c.key) refl refl

  -- what it reaches is what is affected
  pub reaches_is : is_reached model new (is_told model old new moved) ≡ reaches model old new before after
  reaches_is = ap (λ (seeds : Look → Bool). affected (node_looks model new) seeds (round_count new)) (λ i t. told_is t i)
