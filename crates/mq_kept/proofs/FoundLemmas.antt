-- What is found of a partition, before and after a change of its input.
use Rattle.std.proofs.Common.{◌≡◌, Bool, true, false, List, [], length, Option, Some, None, Result, Ok, Err, refl, sym, ap, ◌∙◌}
use Rattle.std.specs.Prelude.{nat_lt, if◌then◌else◌}
use Rattle.std.specs.List.Sorted.{IsStrictlySortedBy}
use Rattle.std.specs.Map.{keys_of}
use Rattle.std.specs.Option.{option_map, option_map_or, option_or}
use Rattle.mq_values.specs.Order.{cmp_key}
use Rattle.mq_values.specs.declared.faults.FaultKind.TheVariants as kind
use Rattle.mq_values.specs.declared.faults.QueryFault.{QueryFault}
use Rattle.mq_values.specs.declared.limits.TheConstants.{MAX_CELLS_OF_PARTITION}
use Rattle.mq_ir.specs.declared.query.CellName.{CellName}
use Rattle.mq_ir.specs.declared.query.ModelPart.{ModelPart}
use Rattle.mq_ir.specs.declared.query.PartInput.{PartInput}
use Rattle.mq_ir.specs.declared.query.PartResult.{PartResult}
use Rattle.mq_ir.specs.declared.query.PartResult.TheVariants.{Fault}
use Rattle.mq_ir.specs.declared.query.PartShape.{PartShape}
use Rattle.mq_ir.specs.Answer.{result_in}
use Rattle.mq_ir.specs.Automatic.{automatic, cycle_in, levelled_shape, shape_found, slot_cells, slots_in}
use Rattle.mq_ir.specs.Iteration.{input_fault, part_result, sequential}
use Rattle.mq_ir.specs.Keys.{Tuple}
use Rattle.mq_ir.specs.Partitions.{cell_at}
use Rattle.mq_ir.specs.Placed.{Placed, at_partition, placed_fault}
use Rattle.mq_ir.specs.Ready.{IsReady}
use Rattle.mq_ir.specs.Results.{◌>>=◌, marked}
use Rattle.mq_ir.specs.Shape.{shape_over}
use Rattle.mq_ir.specs.Unfolding.{Model}
use Rattle.mq_cells.specs.IndexedStores.{results_of}
use Rattle.mq_cells.specs.Stores.{CellInput, Results}
use Rattle.mq_auto_shape.specs.declared.indexed.IndexedShape.{IndexedShape}
use Rattle.mq_change_laws.specs.ShapeLaws.{ShapeIsSound}
use Rattle.mq_change_laws.specs.Sides.{IsShaped}
use Rattle.mq_auto.specs.Findings.{IsJudged}
use Rattle.mq_auto.specs.Meaning.{result_with}
use Rattle.mq_delta_cells.specs.Changes.{IsChange, has_moved, side_of}
use Rattle.mq_delta_cells.specs.Seeds.{is_moved}
use Rattle.mq_kept.specs.declared.kept_view.ShapedCells.{ShapedCells}
use Rattle.mq_kept.specs.Kept.{HasValues}

-- ---- an input without a fault of its own

none_twice : (o : Option Tuple) (b : Option Placed) → option_or (option_map (λ key. placed_fault 0 key kind.NotUnique) o) b ≡ None → o ≡ None
none_twice None b h = refl
none_twice (Some key) b h = absurd (cc)

module _ (part : ModelPart) (p : PartInput) (ready : IsReady part p) (faultless : input_fault p ≡ None) where
  pub strict_keys : IsStrictlySortedBy cmp_key (keys_of p.cells)
  strict_keys =
      ready.ascend
      (none_twice p.repeated (if nat_lt MAX_CELLS_OF_PARTITION (length p.cells) then Some (placed_fault 0 [] kind.TooManyCells) else None) faultless)

-- ---- what is judged of a partition
module _ (model : Model) (p : PartInput) where
  -- a shape is that of an input without a fault
  pub judged_shape : (found : IndexedShape) → IsJudged model p (Ok found) → (input_fault p ≡ None) × (levelled_shape model (keys_of p.cells) ≡ Ok found.shape)
  judged_shape found judged = by (input_fault p) (levelled_shape model (keys_of p.cells)) judged.exact
    where
      by : (o : Option Placed) (r : Result PartShape Placed) → Ok found.shape ≡ marked (at_partition p.key) (option_map_or Err o r) → (o ≡ None) × (r ≡ Ok found.shape)
      by None (Ok s) e = let same : found.shape ≡ s = cc in (refl, ap Ok (sym same))
      by None (Err f) e = absurd (cc)
      by (Some f) r e = absurd (cc)

  abbrev result_by : Bool → PartResult
  result_by auto = elim auto [ true ↦ (automatic model p).1 | false ↦ sequential model p ]

  abbrev made_with : Result PartShape Placed → PartResult
  made_with found = part_result p.key (found >>= (λ shape. slot_cells model shape (slots_in model shape p.cells)))

  pub sequential_made : (r : PartResult) → model.part.auto ≡ false → r ≡ sequential model p → r ≡ result_in model p
  sequential_made r auto h = h ∙ sym (ap result_by auto)

  -- a fault is what the rules come to
  pub judged_fault : (fault : QueryFault) → model.part.auto ≡ true → IsJudged model p (Err fault) → Fault fault ≡ result_in model p
  judged_fault fault auto judged = by (shape_found model p) judged.exact ∙ sym (ap result_by auto)
    where
      by : (r : Result PartShape Placed) → Err fault ≡ marked (at_partition p.key) r → Fault fault ≡ made_with r
      by (Ok s) e = absurd (cc)
      by (Err f) e = let same : fault ≡ at_partition p.key f = cc in ap Fault same

  pub values_made : (kept : ShapedCells) (r : PartResult) → HasValues model p kept
      → r ≡ result_with model p.key kept.shape.value.found.shape (slots_in model kept.shape.value.found.shape p.cells) → r ≡ result_in model p
  values_made kept r has h =
      h
      ∙ sym (ap made_with (ap (λ (o : Option Placed). option_map_or Err o (levelled_shape model (keys_of p.cells))) has.shape.faultless ∙ has.shape.shaped))
      ∙ sym (ap result_by has.automatic)

-- ---- a change of the input

-- the shape that has no cycle is the shape
shape_of_levelled : (model : Model) (keys : List Tuple) (shape : PartShape) → levelled_shape model keys ≡ Ok shape → shape_over model keys ≡ Ok shape
shape_of_levelled model keys shape h = by (shape_over model keys) h
  where
    found : PartShape → Result PartShape Placed
    found s = Ok s

    none : (s : PartShape) (o : Option Placed) → option_map_or Err o (found s) ≡ Ok shape → found s ≡ Ok shape
    none s None e = e
    none s (Some f) e = absurd (cc)

    by : (r : Result PartShape Placed) → (r >>= (λ s. option_map_or Err (cycle_in model s) (Ok s))) ≡ Ok shape → r ≡ Ok shape
    by (Ok s) e = none s (cycle_in model s) e
    by (Err f) e = absurd (cc)

-- an input without a fault of its own, with its shape
module _ (model : Model) (p : PartInput) (shape : PartShape) (ready : IsReady model.part p) (faultless : input_fault p ≡ None) (shaped : levelled_shape model (keys_of p.cells) ≡ Ok shape) where
  pub is_shaped : IsShaped model (side_of shape p.cells)
  is_shaped = record { keys = strict_keys model.part p ready faultless; shape = shape_of_levelled model (keys_of p.cells) shape shaped }

  -- the keys of the shape are those of the input
  pub base_is : ShapeIsSound model (keys_of p.cells) shape → keys_of p.cells ≡ shape.base
  base_is law = sym (law is_shaped.keys is_shaped.shape).base

module _ (model : Model) (old new : PartInput) (kept : ShapedCells) (ready : IsReady model.part old) (has : HasValues model old kept) where
  -- what is asked of a change that is propagated
  pub is_change : (keys : List Tuple) (moved : List CellName) (given : CellInput) (results : Results) → keys_of new.cells ≡ keys
      → ((c : CellName) → is_moved moved c ≡ has_moved old.cells new.cells c) → given ≡ cell_at new.cells → results ≡ results_of kept.cells
      → IsChange model kept.shape.value.found.shape keys moved old.cells new.cells given results
  is_change keys moved given results k m g r = record {
    given_is = g;
    keys_are = k;
    shaped = is_shaped model old kept.shape.value.found.shape ready has.shape.faultless has.shape.shaped;
    held = λ c. ap (λ (f : Results). f c) r ∙ has.values.results_are c;
    moved_are = m;
  }
