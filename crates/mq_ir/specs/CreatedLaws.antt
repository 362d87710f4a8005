-- Created cells have a value for each dimension.
use Rattle.std.proofs.Common.{◌≡◌, ℕ, arith, List, [], ◌∷◌, map, length, Bool, true, false, not, ◌∙◌}
use Rattle.std.specs.Prelude.{if◌then◌else◌, min}
use Rattle.std.specs.List.{filter, zip}
use Rattle.std.proofs.lemmas.List.{length-map}
use Rattle.std.proofs.lemmas.Slice.Zip.{length-zip}
use Rattle.mq_values.specs.declared.operators.Mode.{Mode}
use Rattle.mq_values.specs.declared.operators.Mode.TheVariants.{Update, Upsert, UpsertAll}
use Rattle.mq_ir.specs.declared.query.SingleLeft.{SingleLeft}
use Rattle.mq_ir.specs.Keys.{Tuple, each_first, is_among}
use Rattle.mq_ir.specs.Targets.{cmp_targets, is_symbolic, meets_left, meets_symbols, named, projected, targets, targets_in, value_at, value_of}
use Rattle.mq_ir.specs.Ready.{HaveLength}
use Rattle.mq_ir.specs.EachLaws.{Each, all_of, each_ascending, each_in, each_kept, each_mapped, each_once}

module _ (left : SingleLeft) (n : ℕ) (w : length left.places ≡ n) where
  abbrev Long : Tuple → Type 0
  Long key = length key ≡ n

  projected_long : (key : Tuple) → Long key → Long (projected left key)
  projected_long key h = length-map (zip left.places key) value_at ∙ length-zip left.places key ∙ (let e : min (length left.places) (length key) ≡ n = omega (arith, h, w) in e)

  named_long : Each Long (named left ∷ [])
  named_long = (length-map left.places value_of ∙ w, tt)

  found_long : (mode : Mode) (set : List Tuple) → Each Long set → Each Long (targets_in left mode set)
  found_long Update set a = each_kept Long (meets_left left) set a
  found_long Upsert set a = by (is_symbolic left)
    where
      by : (b : Bool) → Each Long (if b then filter (meets_left left) set else named left ∷ [])
      by true = each_kept Long (meets_left left) set a
      by false = named_long
  found_long UpsertAll set a = by (is_symbolic left)
    where
      by : (b : Bool) → Each Long (if b then each_first (map (projected left) (filter (meets_symbols left) set)) else named left ∷ [])
      by true = each_once Long _ (each_mapped Long (projected left) Long projected_long (filter (meets_symbols left) set) (each_kept Long (meets_symbols left) set a))
      by false = named_long

  -- the cells that a left side creates have a value for each of its places
  pub created_long : (mode : Mode) (set : List Tuple) → HaveLength n set → HaveLength n (targets left mode set).created
  created_long mode set a =
      all_of Long (targets left mode set).created
      (each_kept Long (λ key. not (is_among set key)) (targets left mode set).cells
      (each_ascending Long (cmp_targets left) (targets_in left mode set) (found_long mode set (each_in Long set a))))
