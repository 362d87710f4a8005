-- What the parts of a rule's looks come to.
use Rattle.std.proofs.Common.{◌≡◌, ◌-◌, List, [], Bool, Option, Some, slice_get, sym, ap, ◌∙◌}
use Rattle.std.specs.List.{filter, filter_map}
use Rattle.std.specs.Option.{option_map_or}
use Rattle.mq_ir.specs.declared.query.PartShape.{PartShape}
use Rattle.mq_ir.specs.declared.query.Rule.{Rule}
use Rattle.mq_ir.specs.Keys.{Tuple}
use Rattle.mq_ir.specs.Looks.{looks_of}
use Rattle.mq_ir.specs.Shape.{Assignment}
use Rattle.mq_ir.specs.Unfolding.{Model}
use Rattle.mq_refs.specs.Sites.{site_with}
use Rattle.mq_refs.specs.declared.parts.LookPart.{LookPart}
use Rattle.mq_refs.specs.LookParts.{is_wanted, looks_in}
use Rattle.mq_auto_shape.specs.Numbers.{Numbered}
use Rattle.mq_auto_shape.specs.Edges.{AreWanted, PlacesAre, number_looked, place_looked, reads_of}
use Rattle.mq_auto_shape.proofs.EdgeLemmas.{looked}
use Rattle.mq_auto_shape.proofs.WantedLemmas.{wanted_looked}

module _ (model : Model) (shape : PartShape) (numbers : Numbered) (wanted : List Bool) (a : Assignment) (rule : Rule) (cells : List Tuple) (places : PlacesAre numbers shape.assigned) (all : AreWanted wanted shape.assigned) where
  pub reads_are : (parts lent : List LookPart) → cells ≡ shape.cells → numbers.keys ≡ cells → lent ≡ parts → slice_get model.part.rules (a.2 - 1) ≡ Some rule
      → looks_in cells parts ≡ filter (is_wanted wanted) (looks_of (site_with model 0 a.0 cells) rule.right)
      → filter_map (number_looked numbers) (looks_in numbers.keys lent) ≡ reads_of model shape a
  reads_are parts lent there keys same ruled is =
      (λ i. filter_map (number_looked numbers) (looks_in (keys i) (same i)))
      ∙ ap (filter_map (number_looked numbers)) is
      ∙ looked numbers shape.assigned places (filter (is_wanted wanted) (looks_of (site_with model 0 a.0 cells) rule.right))
      ∙ wanted_looked wanted shape.assigned all (looks_of (site_with model 0 a.0 cells) rule.right)
      ∙ ap (λ (set : List Tuple). filter_map (place_looked shape.assigned) (looks_of (site_with model 0 a.0 set) rule.right)) there
      ∙ sym (ap (λ (o : Option Rule). filter_map (place_looked shape.assigned) (option_map_or (λ (r : Rule). looks_of (site_with model 0 a.0 shape.cells) r.right) o [])) ruled)
