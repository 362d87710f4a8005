-- What is found of the new input, and what the condition of a change says of its shape.
use Rattle.std.proofs.Common.{◌≡◌, List, [], Option, Some, None, Result, Ok, Err, sym, ap, subst, ◌∙◌}
use Rattle.std.specs.List.Sorted.{IsStrictlySortedBy}
use Rattle.std.specs.Option.{option_map_or}
use Rattle.mq_values.specs.Order.{cmp_key}
use Rattle.mq_values.specs.declared.faults.QueryFault.{QueryFault}
use Rattle.mq_ir.specs.declared.query.CellName.{CellName}
use Rattle.mq_ir.specs.declared.query.PartShape.{PartShape}
use Rattle.mq_ir.specs.Automatic.{cycle_in, levelled_shape}
use Rattle.mq_ir.specs.Keys.{Tuple}
use Rattle.mq_ir.specs.Partitions.{Cells}
use Rattle.mq_ir.specs.Placed.{Placed, at_partition}
use Rattle.mq_ir.specs.Results.{◌>>=◌, marked}
use Rattle.mq_ir.specs.Shape.{shape_over}
use Rattle.mq_ir.specs.Unfolding.{Model}
use Rattle.mq_cells.specs.Stores.{CellInput, Results}
use Rattle.mq_change_laws.specs.Sides.{IsShaped}
use Rattle.mq_auto.specs.Meaning.{judged}
use Rattle.mq_auto.specs.declared.verdict.Verdict.TheVariants.{Done, Broken}
use Rattle.mq_auto_shape.specs.Found.{shape_meant}
use Rattle.mq_delta_cells.specs.Bounds.{most_reads}
use Rattle.mq_delta_cells.specs.Changes.{IsChange, reaches, reads_of_change, side_of}

module _ (model : Model) (keys : List Tuple) where
  marked_ok : (r : Result PartShape Placed) (shape : PartShape) → Ok shape ≡ marked (at_partition []) r → r ≡ Ok shape
  marked_ok (Ok s) shape h = let is : shape ≡ s = cc in ap Ok (sym is)
  marked_ok (Err f) shape h = cc

  marked_err : (r : Result PartShape Placed) (fault : QueryFault) → Err fault ≡ marked (at_partition []) r → Broken fault ≡ judged [] r
  marked_err (Ok s) fault h = cc
  marked_err (Err f) fault h = ap Broken (let is : fault ≡ at_partition [] f = cc in is)

  levelled_by : (o : Option Placed) (s shape : PartShape) → option_map_or Err o (Ok s) ≡ Ok shape → s ≡ shape
  levelled_by None s shape h = cc
  levelled_by (Some f) s shape h = cc

  shape_by : (r : Result PartShape Placed) (shape : PartShape) → (r >>= (λ s. option_map_or Err (cycle_in model s) (Ok s))) ≡ Ok shape → r ≡ Ok shape
  shape_by (Ok s) shape h = ap Ok (levelled_by (cycle_in model s) s shape h)
  shape_by (Err f) shape h = cc

  -- a shape is found
  pub found_done : (shape : PartShape) → Ok shape ≡ shape_meant model keys → Done shape ≡ judged [] (levelled_shape model keys)
  found_done shape h = sym (ap (judged []) (marked_ok (levelled_shape model keys) shape h))

  pub found_shape : (shape : PartShape) → Ok shape ≡ shape_meant model keys → shape_over model keys ≡ Ok shape
  found_shape shape h = shape_by (shape_over model keys) shape (marked_ok (levelled_shape model keys) shape h)

  -- a fault is found
  pub found_broken : (fault : QueryFault) → Err fault ≡ shape_meant model keys → Broken fault ≡ judged [] (levelled_shape model keys)
  found_broken fault h = marked_err (levelled_shape model keys) fault h

  module _ (old shape : PartShape) (moved : List CellName) (before after : Cells) (given : CellInput) (results : Results)
      (change : IsChange model old keys moved before after given results) (found : Ok shape ≡ shape_meant model keys) where
    pub is_shaped : IsStrictlySortedBy cmp_key keys → IsShaped model (side_of shape after)
    is_shaped ascend = record {
      keys = subst (IsStrictlySortedBy cmp_key) (sym change.keys_are) ascend;
      shape = ap (shape_over model) change.keys_are ∙ found_shape shape found;
    }

    pub change_over : shape.base ≡ keys → IsChange model old shape.base moved before after given results
    change_over base = subst (λ (ks : List Tuple). IsChange model old ks moved before after given results) (sym base) change

    pub most_are : reads_of_change model old (shape_over model keys) before after ≡ most_reads model shape (reaches model old shape before after)
    most_are = ap (λ r. reads_of_change model old r before after) (found_shape shape found)
