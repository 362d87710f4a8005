-- What is not levelled is poisoned.
use Rattle.std.proofs.Common.{◌≡◌, ℕ, zero, suc, Bool, true, false, ◌&&◌, List, [], ◌∷◌, Option, Some, None, refl, sym, ap, ◌∙◌}
use Rattle.std.specs.List.{list_all}
use Rattle.std.specs.Prelude.{if◌then◌else◌}
use Rattle.std.proofs.lemmas.Bool.{and_right}
use Rattle.mq_ir.specs.declared.query.CellName.{CellName}
use Rattle.mq_ir.specs.declared.query.Look.{Look}
use Rattle.mq_ir.specs.declared.query.Look.TheVariants.{Measure, Presence}
use Rattle.mq_ir.specs.declared.query.PartShape.{PartShape}
use Rattle.mq_ir.specs.declared.query.Rule.{Rule}
use Rattle.mq_ir.specs.declared.query.Slot.{Slot}
use Rattle.mq_ir.specs.declared.query.Slot.TheVariants.{Poisoned}
use Rattle.mq_ir.specs.Automatic.{assigning_rule, cell_of, node_looks, slots_in, system_of}
use Rattle.mq_ir.specs.Partitions.{Cells}
use Rattle.mq_ir.specs.Reads.{right_value}
use Rattle.mq_ir.specs.Rounds.{every_look, levelled, value}
use Rattle.mq_ir.specs.Slots.{done_value, is_done, is_known, site_in, slot_of}
use Rattle.mq_ir.specs.Unfolding.{Model}
use Rattle.mq_change_laws.specs.NodeLaws.{looked, looks_is, stepped, unassigned_levelled}
use Rattle.mq_change_laws.specs.SettledLaws.{assigned_value, unknown_value}
use Rattle.mq_change_laws.specs.Sides.{is_levelled_in}

-- What is not levelled in the end is poisoned.
abbrev pub RestIsPoisoned : Model → PartShape → Cells → CellName → Type 0
RestIsPoisoned model shape input c = is_levelled_in model shape (Measure c) ≡ false → slots_in model shape input c ≡ Poisoned

module _ (model : Model) (shape : PartShape) (input : Cells) where
  abbrev values : ℕ → Look → Slot
  values = value (system_of model shape input)

  abbrev levels : ℕ → Look → Bool
  levels = levelled (node_looks model shape)

  some_unknown : (n : ℕ) → ((t : Look) → levels n t ≡ false → values n t ≡ Poisoned) → (xs : List Look) → list_all (levels n) xs ≡ false
      → list_all (is_known (λ c. values n (Measure c))) xs ≡ false
  some_unknown n earlier [] h = h
  some_unknown n earlier (Presence key ∷ xs) h =
      some_unknown n earlier xs (sym (ap (λ b. b && list_all (levels n) xs) (unassigned_levelled model shape n (Presence key) refl)) ∙ h)
  some_unknown n earlier (Measure c ∷ xs) h = by (levels n (Measure c)) refl (some_unknown n earlier xs)
    where
      known : Bool
      known = is_done (values n (Measure c))

      rest : Bool
      rest = list_all (is_known (λ c. values n (Measure c))) xs

      by : (b : Bool) → levels n (Measure c) ≡ b → (list_all (levels n) xs ≡ false → rest ≡ false) → (known && rest) ≡ false
      by true e more = and_right known rest (more (sym (ap (λ b. b && list_all (levels n) xs) e) ∙ h))
      by false e more = ap (λ slot. is_done slot && rest) (earlier (Measure c) e)

  -- what a rule makes of the values of a round, were all of them known
  abbrev found : ℕ → Look → Rule → Slot
  found n t rule =
      slot_of (right_value (site_in model shape 0 (cell_of t)) shape.base (λ c. done_value (values n (Measure c))) rule)

  poisoned_by : (n : ℕ) (t : Look) (looks : List Look) (o : Option Rule) → looked model shape t o ≡ Some looks
      → list_all (is_known (λ c. values n (Measure c))) looks ≡ false
      → stepped model shape t (values n) o ≡ Poisoned
  poisoned_by n t looks None h k = refl
  poisoned_by n t looks (Some rule) h k =
      ap (λ b. if b then found n t rule else Poisoned)
      (ap (list_all (is_known (λ c. values n (Measure c)))) (looks_is model shape t looks rule h) ∙ k)

  next_poisoned : (n : ℕ) (t : Look) → ((u : Look) → levels n u ≡ false → values n u ≡ Poisoned)
      → (o : Option (List Look)) → node_looks model shape t ≡ o → every_look (levels n) o ≡ false → values (suc n) t ≡ Poisoned
  next_poisoned n t earlier None e h = cc
  next_poisoned n t earlier (Some looks) e h =
      assigned_value (system_of model shape input) n t looks e
      ∙ poisoned_by n t looks (assigning_rule model shape t) e (some_unknown n earlier looks h)

  first_poisoned : (t : Look) → (o : Option (List Look)) → node_looks model shape t ≡ o → levels zero t ≡ false → values zero t ≡ Poisoned
  first_poisoned t None e h = let k : true ≡ false = sym (unassigned_levelled model shape zero t e) ∙ h in cc
  first_poisoned t (Some looks) e h = unknown_value (system_of model shape input) t looks e

  -- in every round what is not levelled by then is poisoned
  pub unlevelled_poisoned : (n : ℕ) (t : Look) → levelled (node_looks model shape) n t ≡ false
      → value (system_of model shape input) n t ≡ Poisoned
  unlevelled_poisoned zero t h = first_poisoned t (node_looks model shape t) refl h
  unlevelled_poisoned (suc n) t h = next_poisoned n t (unlevelled_poisoned n) (node_looks model shape t) refl h
