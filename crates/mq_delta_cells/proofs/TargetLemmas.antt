-- Whether a change begins at an assignment of the new shape.
use Rattle.std.proofs.Common.{◌≡◌, ℕ, ◌-◌, ◌==◌, Bool, true, false, ◌&&◌, ◌||◌, not, List, [], Option, Some, None, slice_get, refl, sym, ap, ◌∙◌}
use Rattle.std.specs.Prelude.{unwrap_or}
use Rattle.std.proofs.lemmas.Bool.{eq-eqb, eqb-true}
use Rattle.std.specs.List.{find}
use Rattle.std.specs.Option.{option_and_then, option_map, option_map_or}
use Rattle.mq_ir.specs.declared.query.CellName.{CellName}
use Rattle.mq_ir.specs.declared.query.Look.{Look}
use Rattle.mq_ir.specs.declared.query.PartShape.{PartShape}
use Rattle.mq_ir.specs.declared.query.Rule.{Rule}
use Rattle.mq_ir.specs.Affected.{are_same_looks, looks_or_none}
use Rattle.mq_ir.specs.Automatic.{node_looks, node_of, rule_at}
use Rattle.mq_ir.specs.Keys.{is_among}
use Rattle.mq_ir.specs.Looks.{looks_of}
use Rattle.mq_ir.specs.Shape.{Assignment, assigns}
use Rattle.mq_ir.specs.Slots.{site_in}
use Rattle.mq_ir.specs.Unfolding.{Model}
use Rattle.mq_cells.specs.Stores.{name_assigned}
use Rattle.mq_change_laws.specs.ChangeLaws.{SameLooksAreOne}
use Rattle.mq_auto_shape.specs.Edges.{looks_by}
use Rattle.mq_delta_cells.specs.Seeds.{is_told, looks_elsewhere, told_by}

pub own_rule : (shape : PartShape) (a : Assignment) → find (assigns a.1 a.0) shape.assigned ≡ Some a → rule_at shape (node_of a) ≡ Some a.2
own_rule shape a own = ap (λ (o : Option Assignment). option_map (λ b. b.2) o) own

-- by its rule it has the looks of its assignment
looks_are : (model : Model) (shape : PartShape) (a : Assignment) → rule_at shape (node_of a) ≡ Some a.2
    → looks_or_none (node_looks model shape (node_of a)) ≡ looks_by model shape a
looks_are model shape a e =
    ap (λ o. looks_or_none (option_map f (option_and_then (λ number. slice_get model.part.rules (number - 1)) o))) e
    ∙ by (slice_get model.part.rules (a.2 - 1))
  where
    f : Rule → List Look
    f rule = looks_of (site_in model shape 0 a.0) rule.right

    by : (o : Option Rule) → unwrap_or (option_map f o) [] ≡ option_map_or f o []
    by None = refl
    by (Some rule) = refl

module _ (model : Model) (old new : PartShape) (moved : List CellName) (a : Assignment) (own : find (assigns a.1 a.0) new.assigned ≡ Some a) where
  abbrev told_with : Option ℕ → Bool
  told_with was = told_by model old new moved (name_assigned a) was (rule_at new (node_of a))

  -- where the old shape did not assign it
  pub target_new : rule_at old (node_of a) ≡ None → told_with (rule_at old (node_of a)) ≡ true
  target_new e = λ i. told_by model old new moved (name_assigned a) (e i) (own_rule new a own i)

  -- .. or by another rule
  pub target_ruled : (number : ℕ) → rule_at old (node_of a) ≡ Some number → (number ≡ a.2 → ⊥) → told_with (rule_at old (node_of a)) ≡ true
  target_ruled number e apart =
      (λ i. told_by model old new moved (name_assigned a) (e i) (own_rule new a own i))
      ∙ ap (λ b. not b || looks_elsewhere model old new (name_assigned a)) (by (number == a.2) refl)
    where
      by : (b : Bool) → (number == a.2) ≡ b → b ≡ false
      by true h = absurd (apart (eqb-true number a.2 h))
      by false h = refl

  -- .. or by the same
  pub target_looked : (number : ℕ) (were : List Look) → rule_at old (node_of a) ≡ Some number → number ≡ a.2 → were ≡ looks_by model old a
      → (looks : List Look) → looks ≡ looks_by model new a → told_with (rule_at old (node_of a)) ≡ not (are_same_looks were looks)
  target_looked number were e same w looks l =
      (λ i. told_by model old new moved (name_assigned a) (e i) (own_rule new a own i))
      ∙ ap (λ b. not b || looks_elsewhere model old new (name_assigned a)) (eq-eqb number a.2 same)
      ∙ (λ i. not (are_same_looks (looks_are model old a (e ∙ ap Some same) i) (looks_are model new a (own_rule new a own) i)))
      ∙ (λ i. not (are_same_looks (sym w i) (sym l i)))

  -- of one shape none is
  pub target_same : ((xs ys : List Look) → SameLooksAreOne xs ys) → old ≡ new → false ≡ is_told model old new moved (node_of a)
  target_same law e = sym (ap (λ (s : PartShape). is_told model s new moved (node_of a)) e ∙ by (is_among new.cells a.0) ∙ same_told (rule_at new (node_of a)) (own_rule new a own))
    where
      by : (b : Bool) → (((b && not b) || (b && not b)) || told_by model new new moved (name_assigned a) (rule_at new (node_of a)) (rule_at new (node_of a)))
          ≡ told_by model new new moved (name_assigned a) (rule_at new (node_of a)) (rule_at new (node_of a))
      by true = refl
      by false = refl

      itself : (n : ℕ) → (n == n) ≡ true
      itself n = eq-eqb n n refl

      alike : (xs : List Look) → are_same_looks xs xs ≡ true
      alike xs = (law xs xs).1 refl

      same_told : (o : Option ℕ) → o ≡ Some a.2 → told_by model new new moved (name_assigned a) o o ≡ false
      same_told o h =
          ap (λ (p : Option ℕ). told_by model new new moved (name_assigned a) p p) h
          ∙ (λ i. not (itself a.2 i) || not (alike (looks_or_none (node_looks model new (node_of a))) i))
