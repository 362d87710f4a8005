-- What a rule makes of a target where a store lends all values.
use Rattle.std.proofs.Common.{◌≡◌, Bool, true, ◌&&◌, List, [], ◌∷◌, refl, sym, ap, ◌∙◌}
use Rattle.std.specs.List.{list_all}
use Rattle.std.specs.Prelude.{if◌then◌else◌}
use Rattle.mq_ir.specs.declared.query.Look.{Look}
use Rattle.mq_ir.specs.declared.query.Look.TheVariants.{Measure, Presence}
use Rattle.mq_ir.specs.declared.query.PartShape.{PartShape}
use Rattle.mq_ir.specs.declared.query.Rule.{Rule}
use Rattle.mq_ir.specs.declared.query.Slot.TheVariants.{Poisoned}
use Rattle.mq_ir.specs.Expression.{Outcome}
use Rattle.mq_ir.specs.Keys.{Tuple}
use Rattle.mq_ir.specs.Looks.{looks_of}
use Rattle.mq_ir.specs.Reads.{right_value}
use Rattle.mq_ir.specs.Slots.{cell_slot, done_value, is_done, is_known, site_in, slot_of}
use Rattle.mq_ir.specs.Unfolding.{Model}
use Rattle.mq_cells.specs.IndexedStores.{IndexedStore, slots_in, value_in}
use Rattle.mq_refs.specs.Sites.{site_with}
use Rattle.mq_auto.specs.Walks.{LendsAll}

module _ (store : IndexedStore) (values : LendsAll store) where
  known : (looks : List Look) → list_all (is_known (slots_in store)) looks ≡ true
  known [] = refl
  known (Measure c ∷ looks) = λ i. is_done (values c i) && known looks i
  known (Presence key ∷ looks) = known looks

  pub lent_is : (model : Model) (shape : PartShape) (rule : Rule) (target : Tuple) (set base : List Tuple) → set ≡ shape.cells → base ≡ shape.base → (o : Outcome)
      → right_value (site_with model 0 target set) base (value_in store) rule ≡ o → slot_of o ≡ cell_slot model shape 0 rule target (slots_in store)
  lent_is model shape rule target set base s b o e =
      ap slot_of (sym e ∙ (λ i. right_value (site_with model 0 target (s i)) (b i) (value_in store) rule))
      ∙ sym (ap (λ (k : Bool). if k then slot_of (right_value (site_in model shape 0 target) shape.base (λ c. done_value (slots_in store c)) rule) else Poisoned)
      (known (looks_of (site_in model shape 0 target) rule.right)))
