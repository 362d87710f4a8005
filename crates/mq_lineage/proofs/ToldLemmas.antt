-- What is known of the steps so far, a step more, and the slots that a rule sees.
use Rattle.std.proofs.Common.{◌≡◌, ℕ, ◌-◌, Bool, true, false, ◌||◌, List, [], ◌∷◌, Option, Some, None, Result, Ok, Err, IfOk, slice_get, refl, sym, ap, ◌∙◌}
use Rattle.std.specs.Prelude.{if◌then◌else◌, unwrap_or}
use Rattle.std.specs.Bool.{Decides}
use Rattle.std.specs.List.{filter_map, find, list_all}
use Rattle.std.specs.Option.{option_and_then, option_map, option_map_or}
use Rattle.std.proofs.lemmas.Bool.{and_parts}
use Rattle.mq_ir.specs.declared.query.CellName.{CellName}
use Rattle.mq_ir.specs.declared.query.DerivationStep.{DerivationStep}
use Rattle.mq_ir.specs.declared.query.Look.{Look}
use Rattle.mq_ir.specs.declared.query.Look.TheVariants.{Measure, Presence}
use Rattle.mq_ir.specs.declared.query.PartShape.{PartShape}
use Rattle.mq_ir.specs.declared.query.Rule.{Rule}
use Rattle.mq_ir.specs.declared.query.Slot.{Slot}
use Rattle.mq_ir.specs.declared.query.Slot.TheVariants.{Done, Poisoned}
use Rattle.mq_ir.specs.Affected.{is_same_look, looks_or_none}
use Rattle.mq_ir.specs.Automatic.{assigning_rule, rule_at}
use Rattle.mq_ir.specs.Derivations.{IsDerived, is_among_steps, is_same_measure, measure_of, slot_among}
use Rattle.mq_ir.specs.Looks.{looks_of}
use Rattle.mq_ir.specs.ReadLaws.{AgreeAt}
use Rattle.mq_ir.specs.Slots.{cell_slot, site_in}
use Rattle.mq_ir.specs.Unfolding.{Model}
use Rattle.mq_cells.specs.Stores.{CellInput, Results, input_value, slot_at}
use Rattle.mq_change_laws.specs.NodeLaws.{StepsRead, looked, stepped}
use Rattle.mq_lineage.specs.Telling.{AreTold, IsMade, Tells, look_told}
use Rattle.mq_lineage.proofs.LookLemmas.{told_among}

pub told_none : (results : Results) → ((c : CellName) → results c ≡ None) → AreTold [] results
told_none results h = record { stand = h }

pub told_more : (earlier : List DerivationStep) (step : DerivationStep) (before after : Results) → AreTold earlier before
    → Tells step before after → AreTold (step ∷ earlier) after
told_more earlier step before after t h = record { stand = λ c. h c ∙ by c (is_same_measure c step.name) (t.stand c) }
  where
    by : (c : CellName) (b : Bool) → before c ≡ option_map (λ s. s.slot) (find (λ s. is_same_measure c s.name) earlier)
        → (if b then Some step.slot else before c) ≡ option_map (λ s. s.slot) (if b then Some step else find (λ s. is_same_measure c s.name) earlier)
    by c true e = refl
    by c false e = e

-- a measure that an earlier step is of
slot_told : (c : CellName) (other : Slot) (earlier : List DerivationStep) → is_among_steps earlier c ≡ true
    → unwrap_or (option_map (λ s. s.slot) (find (λ s. is_same_measure c s.name) earlier)) other ≡ slot_among earlier (Measure c)
slot_told c other [] h = cc
slot_told c other (x ∷ xs) h = by (is_same_measure c x.name) h (slot_told c other xs)
  where
    by : (b : Bool) → (b || is_among_steps xs c) ≡ true
        → (is_among_steps xs c ≡ true → unwrap_or (option_map (λ s. s.slot) (find (λ s. is_same_measure c s.name) xs)) other ≡ slot_among xs (Measure c))
        → unwrap_or (option_map (λ s. s.slot) (if b then Some x else find (λ s. is_same_measure c s.name) xs)) other
        ≡ option_map_or (λ s. s.slot) (if b then Some x else find (λ s. is_same_look (Measure c) (Measure s.name)) xs) Poisoned
    by true h k = refl
    by false h k = k h

module _ (earlier : List DerivationStep) (input : CellInput) (results : Results) (t : AreTold earlier results) where
  agree : (looks : List Look) → list_all (is_among_steps earlier) (filter_map measure_of looks) ≡ true
      → AgreeAt (slot_at input results) (λ c. slot_among earlier (Measure c)) looks
  agree [] h = tt
  agree (Measure c ∷ looks) h =
      let both = and_parts (is_among_steps earlier c) (list_all (is_among_steps earlier) (filter_map measure_of looks)) h in
      (ap (λ o. unwrap_or o (Done (input_value input c))) (t.stand c) ∙ slot_told c (Done (input_value input c)) earlier both.0, agree looks both.1)
  agree (Presence key ∷ looks) h = agree looks h

  module _ (law : StepsRead) (model : Model) (shape : PartShape) (rule : Rule) (step : DerivationStep) where
    abbrev rule_looks : List Look
    rule_looks = looks_of (site_in model shape 0 step.name.key) rule.right

    abbrev seen : Slot
    seen = cell_slot model shape 0 rule step.name.key (slot_at input results)

    -- the looks are not all told
    pub not_made : (looks : List Look) (b : Bool) → looks ≡ rule_looks → b ≡ list_all (look_told results) looks → b ≡ false → Decides false (IsMade model shape earlier step rule)
    not_made looks b e k f = (
      λ h. cc,
      λ made. let q : true ≡ false = sym made.0 ∙ sym (told_among earlier results t rule_looks) ∙ ap (list_all (look_told results)) (sym e) ∙ sym k ∙ f in absurd (cc),
    )

    pub made : (looks : List Look) (b same : Bool) (slot : Slot) → looks ≡ rule_looks → b ≡ list_all (look_told results) looks → b ≡ true → slot ≡ seen → Decides same (step.slot ≡ slot)
        → Decides same (IsMade model shape earlier step rule)
    made looks b same slot e k f s d = (
      λ h. (all, d.0 h ∙ s ∙ is_told_slot),
      λ m. d.1 (m.1 ∙ sym is_told_slot ∙ sym s),
    )
      where
        all : list_all (is_among_steps earlier) (filter_map measure_of rule_looks) ≡ true
        all = sym (told_among earlier results t rule_looks) ∙ ap (list_all (look_told results)) (sym e) ∙ sym k ∙ f

        is_told_slot : seen ≡ cell_slot model shape 0 rule step.name.key (λ c. slot_among earlier (Measure c))
        is_told_slot = law model shape 0 rule step.name.key (slot_at input results) (λ c. slot_among earlier (Measure c)) (agree rule_looks all)

-- ---- a step with a rule
module _ (model : Model) (shape : PartShape) (earlier : List DerivationStep) (step : DerivationStep) (number : ℕ) where
  abbrev own : Option Rule → Type 0
  own o =
      (list_all (is_among_steps earlier) (filter_map measure_of (looks_or_none (looked model shape (Measure step.name) o))) ≡ true)
      × (step.slot ≡ stepped model shape (Measure step.name) (slot_among earlier) o)

  -- another rule, or none, assigns the measure
  pub not_derived : (b : Bool) → Decides b (rule_at shape (Measure step.name) ≡ Some number) → b ≡ false → Decides false (IsDerived model shape earlier step number)
  not_derived b d f = (λ h. cc, λ (a : IsDerived model shape earlier step number). let q : true ≡ false = sym (d.1 a.0) ∙ f in absurd (cc))

  ruled : rule_at shape (Measure step.name) ≡ Some number → assigning_rule model shape (Measure step.name) ≡ slice_get model.part.rules (number - 1)
  ruled e = ap (option_and_then (λ number. slice_get model.part.rules (number - 1))) e

  pub derived : (b told : Bool) (o : Option Rule) → Decides b (rule_at shape (Measure step.name) ≡ Some number) → b ≡ true → slice_get model.part.rules (number - 1) ≡ o → Decides told (own o)
      → Decides told (IsDerived model shape earlier step number)
  derived b told o d f r k = (
    λ h. let by = k.0 h in (d.0 f, ap (λ (z : Option Rule). list_all (is_among_steps earlier) (filter_map measure_of (looks_or_none (looked model shape (Measure step.name) z)))) is ∙ by.0, by.1 ∙ ap (stepped model shape (Measure step.name) (slot_among earlier)) (sym is)),
    λ (a : IsDerived model shape earlier step number). k.1 (ap (λ (z : Option Rule). list_all (is_among_steps earlier) (filter_map measure_of (looks_or_none (looked model shape (Measure step.name) z)))) (sym is) ∙ a.1, a.2 ∙ ap (stepped model shape (Measure step.name) (slot_among earlier)) is),
  )
    where
      is : assigning_rule model shape (Measure step.name) ≡ o
      is = ruled (d.0 f) ∙ r

-- a number of no rule makes nothing of any slots
pub unruled : (step : DerivationStep) (b : Bool) → Decides b (step.slot ≡ Poisoned) → Decides b ((true ≡ true) × (step.slot ≡ Poisoned))
unruled step b d = (λ h. (refl, d.0 h), λ (a : (true ≡ true) × (step.slot ≡ Poisoned)). d.1 a.1)

pub if_ok : {A E : Type 0} (r : Result A E) (P Q : A → Type 0) → ((x : A) → P x → Q x) → IfOk r P → IfOk r Q
if_ok (Ok x) P Q f h = f x h
if_ok (Err e) P Q f h = tt
