-- Whatever steps are accepted have the slots of their measures.
use Rattle.std.proofs.Common.{◌≡◌, ℕ, suc, Bool, true, List, [], ◌∷◌, Option, Some, None, refl, sym, ap, ◌∙◌, inl, inr}
use Rattle.std.specs.List.{filter_map, list_all}
use Rattle.std.proofs.lemmas.Bool.{and_from, and_parts, or_cases}
use Rattle.mq_ir.specs.declared.query.CellName.{CellName}
use Rattle.mq_ir.specs.declared.query.DerivationStep.{DerivationStep}
use Rattle.mq_ir.specs.declared.query.Look.{Look}
use Rattle.mq_ir.specs.declared.query.Look.TheVariants.{Measure, Presence}
use Rattle.mq_ir.specs.declared.query.PartShape.{PartShape}
use Rattle.mq_ir.specs.declared.query.Slot.{Slot}
use Rattle.mq_ir.specs.Affected.{looks_or_none}
use Rattle.mq_ir.specs.AffectedLaws.{enough_rounds}
use Rattle.mq_ir.specs.Automatic.{node_looks, round_count, system_of}
use Rattle.mq_ir.specs.Derivations.{AreAccepted, IsAccepted, is_among_steps, is_same_measure, measure_of}
use Rattle.mq_ir.specs.EachLaws.{Each, all_of}
use Rattle.mq_ir.specs.Keys.{Tuple}
use Rattle.mq_ir.specs.Looks.{looks_of}
use Rattle.mq_ir.specs.Partitions.{Cells}
use Rattle.mq_ir.specs.Rounds.{every_look}
use Rattle.mq_ir.specs.Slots.{site_in}
use Rattle.mq_ir.specs.Unfolding.{Model}
use Rattle.mq_change_laws.specs.NodeLaws.{StepsRead, looked, unassigned_levelled}
use Rattle.mq_change_laws.specs.SettledLaws.{unassigned_value}
use Rattle.mq_change_laws.specs.Sides.{is_levelled_in}
use Rattle.mq_derivation_laws.specs.DerivationLaws.{StepsHaveTheirSlots}
use Rattle.mq_derivation_laws.proofs.NameLemmas.{same_name_is}
use Rattle.mq_derivation_laws.proofs.RuledLemmas.{AreRuled, rule_known, shape_ruled}
use Rattle.mq_derivation_laws.proofs.SlotLemmas.{HasSlot, step_is_slot}
use Rattle.mq_derivation_laws.proofs.SourceLemmas.{unruled_looks}

module _ (model : Model) (shape : PartShape) (input : Cells) (law : StepsRead) (ruled : AreRuled model shape.assigned) where
  abbrev IsLevelled : DerivationStep → Type 0
  IsLevelled s = is_levelled_in model shape (Measure s.name) ≡ true

  abbrev levels : Look → Bool
  levels = is_levelled_in model shape

  levelled_at : (earlier : List DerivationStep) → Each IsLevelled earlier → (m : CellName)
      → is_among_steps earlier m ≡ true → levels (Measure m) ≡ true
  levelled_at [] a m h = cc
  levelled_at (x ∷ xs) a m h =
      elim (or_cases (is_same_measure m x.name) (is_among_steps xs m) h) [
        | inl e ↦ ap (λ n. levels (Measure n)) (same_name_is m x.name e) ∙ a.0
        | inr l ↦ levelled_at xs a.1 m l
      ]

  -- where the measures among looks are of earlier steps, all the looks are levelled
  looks_levelled : (earlier : List DerivationStep) → Each IsLevelled earlier → (looks : List Look)
      → list_all (is_among_steps earlier) (filter_map measure_of looks) ≡ true → list_all levels looks ≡ true
  looks_levelled earlier a [] h = refl
  looks_levelled earlier a (Measure m ∷ looks) h =
      let both = and_parts (is_among_steps earlier m) (list_all (is_among_steps earlier) (filter_map measure_of looks)) h in
      and_from (levels (Measure m)) (list_all levels looks) (levelled_at earlier a m both.0) (looks_levelled earlier a looks both.1)
  looks_levelled earlier a (Presence key ∷ looks) h =
      and_from (levels (Presence key)) (list_all levels looks) (unassigned_levelled model shape (round_count shape) (Presence key) refl)
      (looks_levelled earlier a looks h)

  step_good : (earlier : List DerivationStep) → Each (HasSlot model shape input) earlier → Each IsLevelled earlier
      → (c : CellName) (slot : Slot) (o : Option ℕ) → IsAccepted model shape input earlier (record { name = c; rule = o; slot = slot })
      → (HasSlot model shape input (record { name = c; rule = o; slot = slot })) × (levels (Measure c) ≡ true)
  step_good earlier s l c slot None a =
      let none = unruled_looks model shape c a.0 in (
        a.1 ∙ sym (unassigned_value (system_of model shape input) (round_count shape) (Measure c) none),
        unassigned_levelled model shape (round_count shape) (Measure c) none,
      )
  step_good earlier s l c slot (Some number) a =
      let rule = rule_known model shape ruled c number a.0 in
      let looks : List Look = looks_of (site_in model shape 0 c.key) rule.0.right in
      let is : node_looks model shape (Measure c) ≡ Some looks = ap (looked model shape (Measure c)) rule.1 in
      let all = looks_levelled earlier l looks
      (ap (λ o. list_all (is_among_steps earlier) (filter_map measure_of (looks_or_none o))) (sym is) ∙ a.1) in
      let now : levels (Measure c) ≡ true =
      enough_rounds model shape (suc (round_count shape)) (Measure c) (ap (every_look levels) is ∙ all) in
      (a.2 ∙ sym (step_is_slot model shape input earlier s law c rule.0 rule.1 now a.1), now)

  steps_good : (earlier steps : List DerivationStep) → Each (HasSlot model shape input) earlier → Each IsLevelled earlier
      → AreAccepted model shape input earlier steps → Each (HasSlot model shape input) steps
  steps_good earlier [] s l a = tt
  steps_good earlier (x ∷ xs) s l a =
      let good = step_good earlier s l x.name x.slot x.rule a.0 in
      (good.0, steps_good (x ∷ earlier) xs (good.0, s) (good.1, l) a.1)

pub accepted_slots : StepsRead → (model : Model) (keys : List Tuple) (shape : PartShape) (input : Cells) (steps : List DerivationStep)
    → StepsHaveTheirSlots model keys shape input steps
accepted_slots law model keys shape input steps made a =
    all_of (HasSlot model shape input) steps (steps_good model shape input law (shape_ruled model keys shape made) [] steps tt tt a)
