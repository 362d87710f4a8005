-- The parts of a derivation, put together.
use Rattle.std.proofs.Common.{◌≡◌, ℕ, false, List, [], ◌∷◌, ◌++◌, map, Option, Some, None, refl, sym, ap, ◌∙◌}
use Rattle.std.specs.Prelude.{unwrap_or}
use Rattle.std.specs.List.{filter}
use Rattle.std.specs.List.Sorted.{IsStrictlySortedBy}
use Rattle.std.specs.Map.{keys_of}
use Rattle.std.specs.Option.{option_map}
use Rattle.std.proofs.lemmas.List.{map-append}
use Rattle.mq_ir.specs.declared.query.CellName.{CellName}
use Rattle.mq_ir.specs.declared.query.DerivationStep.{DerivationStep}
use Rattle.mq_ir.specs.declared.query.Look.{Look}
use Rattle.mq_ir.specs.declared.query.Look.TheVariants.{Measure}
use Rattle.mq_ir.specs.declared.query.PartShape.{PartShape}
use Rattle.mq_ir.specs.declared.query.Slot.TheVariants.{Done}
use Rattle.mq_ir.specs.Automatic.{node_looks, round_count, rule_at, slots_in, system_of}
use Rattle.mq_ir.specs.Derivations.{derivation, derived_sources, given_sources, is_source, step_of}
use Rattle.mq_ir.specs.Partitions.{Cells, cell_at}
use Rattle.mq_ir.specs.Unfolding.{Model}
use Rattle.mq_cells.specs.Stores.{CellInput, Results, input_value, slot_at}
use Rattle.mq_change_laws.specs.SettledLaws.{unassigned_value}
use Rattle.mq_derivation_laws.specs.DerivationLaws.{DerivationHasSources}
use Rattle.mq_auto.specs.Meaning.{HoldsValues}
use Rattle.mq_auto_shape.specs.Edges.{PlacesAre}
use Rattle.mq_lineage.specs.Closing.{HasSourcesOf, name_of}
use Rattle.mq_lineage.specs.Held.{HeldMeasures, is_held, place_in}
use Rattle.mq_lineage.specs.Nodes.{cmp_node, is_in}
use Rattle.mq_lineage.specs.Ordered.{by_rounds, step_names}
use Rattle.mq_lineage.specs.Told.{Told, step_told, told_among, told_with}
use Rattle.mq_lineage.proofs.GivenLemmas.{given_is}
use Rattle.mq_lineage.proofs.OrderLemmas.{kept_ordered}

module _ (model : Model) (shape : PartShape) (input : Cells) where
  -- where a store holds the automatic values, at each measure stands its slot
  module _ (given : CellInput) (results : Results) (holds : HoldsValues model shape input given results) where
    by_looks : (c : CellName) (o : Option (List Look)) → node_looks model shape (Measure c) ≡ o
        → unwrap_or (option_map (λ looks. slots_in model shape input c) o) (Done (input_value (cell_at input) c)) ≡ slots_in model shape input c
    by_looks c None e = sym (unassigned_value (system_of model shape input) (round_count shape) (Measure c) e)
    by_looks c (Some looks) e = refl

    slot_is : (c : CellName) → slot_at given results c ≡ slots_in model shape input c
    slot_is c =
        (λ i. unwrap_or (holds.results_are c i) (Done (input_value (holds.given_is i) c)))
        ∙ by_looks c (node_looks model shape (Measure c)) refl

    steps_are : (names : List CellName) → map (step_told (slot_at given results)) (map (told_with shape) names) ≡ map (step_of model shape input) names
    steps_are [] = refl
    steps_are (c ∷ names) = λ i. record { name = c; rule = rule_at shape (Measure c); slot = slot_is c i } ∷ steps_are names i

    -- the steps of the measures that a derivation tells
    pub derivation_is : (target : CellName) (told : List Told) (steps : List DerivationStep) → told ≡ map (told_with shape) (step_names model shape target)
        → steps ≡ map (step_told (slot_at given results)) told
        → steps ≡ derivation model shape input target
    derivation_is target told steps n s =
        s ∙ ap (map (step_told (slot_at given results))) n ∙ steps_are (step_names model shape target)

-- what a set of the sources tells
module _ (model : Model) (shape : PartShape) (target : CellName) (law : (c : CellName) → DerivationHasSources model shape [] target c)
    (set : HeldMeasures) (are : PlacesAre set.places shape.assigned) (sources : HasSourcesOf model shape target (is_held set))
    (apart : (c : CellName) (place : ℕ) → place_in set.places c ≡ Some place → is_in set.given c ≡ false)
    (ascend : IsStrictlySortedBy cmp_node (keys_of set.given)) where
  derived_is : filter (is_held set) (by_rounds model shape) ≡ derived_sources model shape target
  derived_is = (λ i. filter (λ c. sources c i) (by_rounds model shape)) ∙ kept_ordered model shape (is_source model shape target)

  pub told_is : (told : List Told) (names ordered : List CellName) → names ≡ map name_of (keys_of set.given) → ordered ≡ by_rounds model shape
      → told ≡ map (told_with shape) names ++ told_among shape (is_held set) ordered
      → told ≡ map (told_with shape) (step_names model shape target)
  told_is told names ordered g o n =
      let first = g ∙ given_is model shape target [] law set are sources apart ascend in
      let others = ap (filter (is_held set)) o ∙ derived_is in
      n
      ∙ (λ i. map (told_with shape) (first i) ++ map (told_with shape) (others i))
      ∙ sym (map-append (told_with shape) (given_sources model shape target) (derived_sources model shape target))
