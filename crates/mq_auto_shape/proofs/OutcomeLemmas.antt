-- The shape with its rounds, or the fault, out of the steps towards it.
use Rattle.std.proofs.Common.{◌≡◌, List, Option, Some, None, Result, Ok, Err, refl, sym, ap, subst, ◌∙◌}
use Rattle.std.specs.List.{All, find}
use Rattle.std.specs.List.Sorted.{IsStrictlySortedBy}
use Rattle.std.specs.Option.{option_map_or}
use Rattle.mq_values.specs.Answers.{Gives}
use Rattle.mq_values.specs.declared.memory.Fail.{Fail}
use Rattle.mq_values.specs.declared.memory.Fail.TheVariants as fail
use Rattle.mq_values.specs.Order.{cmp_key}
use Rattle.mq_ir.specs.declared.query.PartShape.{PartShape}
use Rattle.mq_ir.specs.Automatic.{cycle_in, levelled_shape}
use Rattle.mq_ir.specs.Keys.{Tuple}
use Rattle.mq_ir.specs.Placed.{Placed}
use Rattle.mq_ir.specs.Results.{◌>>=◌}
use Rattle.mq_ir.specs.Shape.{Growing, assigns, shape_over}
use Rattle.mq_ir.specs.Unfolding.{Model}
use Rattle.mq_auto_shape.specs.Outcomes.{FindsLevels, FindsShape, IsGrown}
use Rattle.mq_auto_shape.specs.Walk.{rules_grown}
use Rattle.mq_auto_shape.proofs.MeaningLemmas.{begun, shape_fails, shape_from, shape_is}
use Rattle.mq_auto_shape.proofs.WalkLemmas.{walk_keeps}

module _ (model : Model) (keys : List Tuple) where
  pub grown_shape : (first g : Growing) (shape : PartShape) → first ≡ begun keys → rules_grown model first ≡ Ok g → shape ≡ shape_from keys g → IsStrictlySortedBy cmp_key g.set
      → All (λ a. find (assigns a.1 a.0) g.assigned ≡ Some a) g.assigned → IsGrown model keys shape
  grown_shape first g shape b h e s o =
      let kept = walk_keeps model keys g (sym (ap (rules_grown model) b) ∙ h) in
      subst (IsGrown model keys) (sym e) (record { base = refl; ascend = s; own = o; ruled = kept.0; there = kept.1 })

  pub walk_fails : {A : Type 0} (f : A → PartShape) (first : Growing) (e : Fail Placed) → first ≡ begun keys → Gives {T = Growing} (Err e) (rules_grown model first)
      → FindsShape f (Err e) (shape_over model keys)
  walk_fails f first (fail.Cause fault) b h = shape_fails model keys fault (sym (ap (rules_grown model) b) ∙ h)
  walk_fails f first fail.Memory b h = tt

  pub walk_done : (first g : Growing) (shape : PartShape) → first ≡ begun keys → rules_grown model first ≡ Ok g → shape ≡ shape_from keys g
      → shape_over model keys ≡ Ok shape
  walk_done first g shape b h e = shape_is model keys g (sym (ap (rules_grown model) b) ∙ h) ∙ ap Ok (sym e)

  pub shape_fault_first : {A B : Type 0} (f : A → PartShape) (g : B → PartShape) (e : Fail Placed) → FindsShape f (Err e) (shape_over model keys) → FindsShape g (Err e) (levelled_shape model keys)
  shape_fault_first f g (fail.Cause fault) h = ap (λ (r : Result PartShape Placed). r >>= (λ shape. option_map_or Err (cycle_in model shape) (Ok shape))) h
  shape_fault_first f g fail.Memory h = tt

  module _ (shape : PartShape) (h : shape_over model keys ≡ Ok shape) where
    decided : levelled_shape model keys ≡ option_map_or Err (cycle_in model shape) (Ok shape)
    decided = ap (λ (r : Result PartShape Placed). r >>= (λ shape. option_map_or Err (cycle_in model shape) (Ok shape))) h

    pub cycle_then : {B : Type 0} (g : B → PartShape) (e : Fail Placed) → FindsLevels (Err e) (cycle_in model shape) → FindsShape g (Err e) (levelled_shape model keys)
    cycle_then g (fail.Cause fault) c = decided ∙ ap (λ (o : Option Placed). option_map_or Err o (Ok shape)) c
    cycle_then g fail.Memory c = tt

    pub shape_then : cycle_in model shape ≡ None → levelled_shape model keys ≡ Ok shape
    shape_then c = decided ∙ ap (λ (o : Option Placed). option_map_or Err o (Ok shape)) c
