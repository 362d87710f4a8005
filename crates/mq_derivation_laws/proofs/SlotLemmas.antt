-- A rule makes of the slots of earlier steps what it makes of the slots in the end.
use Rattle.std.proofs.Common.{◌≡◌, Bool, true, false, ◌||◌, List, [], ◌∷◌, cond, Some, refl, sym, ap, ◌∙◌}
use Rattle.std.specs.List.{filter_map, find, list_all}
use Rattle.std.specs.Option.{option_map_or}
use Rattle.std.proofs.lemmas.Bool.{and_parts}
use Rattle.mq_ir.specs.declared.query.CellName.{CellName}
use Rattle.mq_ir.specs.declared.query.DerivationStep.{DerivationStep}
use Rattle.mq_ir.specs.declared.query.Look.{Look}
use Rattle.mq_ir.specs.declared.query.Look.TheVariants.{Measure, Presence}
use Rattle.mq_ir.specs.declared.query.PartShape.{PartShape}
use Rattle.mq_ir.specs.declared.query.Rule.{Rule}
use Rattle.mq_ir.specs.declared.query.Slot.TheVariants.{Poisoned}
use Rattle.mq_ir.specs.Affected.{is_same_look, looks_or_none}
use Rattle.mq_ir.specs.Automatic.{assigning_rule, node_step, round_count, slots_in}
use Rattle.mq_ir.specs.Derivations.{is_among_steps, is_same_measure, measure_of, measures_looked_at, slot_among}
use Rattle.mq_ir.specs.EachLaws.{Each}
use Rattle.mq_ir.specs.Looks.{looks_of}
use Rattle.mq_ir.specs.Partitions.{Cells}
use Rattle.mq_ir.specs.ReadLaws.{AgreeAt}
use Rattle.mq_ir.specs.Slots.{site_in}
use Rattle.mq_ir.specs.Unfolding.{Model}
use Rattle.mq_change_laws.specs.NodeLaws.{StepsRead, looked, slot_is_step, stepped}
use Rattle.mq_change_laws.specs.Sides.{is_levelled_in}
use Rattle.mq_derivation_laws.proofs.NameLemmas.{same_name_is}

module _ (model : Model) (shape : PartShape) (input : Cells) where
  -- a step that has the slot of its measure
  abbrev pub HasSlot : DerivationStep → Type 0
  HasSlot s = s.slot ≡ slots_in model shape input s.name

  slot_found : (m : CellName) (earlier : List DerivationStep) → Each HasSlot earlier → is_among_steps earlier m ≡ true
      → slots_in model shape input m ≡ slot_among earlier (Measure m)
  slot_found m [] a h = cc
  slot_found m (x ∷ xs) a h = by (is_same_measure m x.name) refl h (slot_found m xs a.1)
    where
      by : (b : Bool) → is_same_measure m x.name ≡ b → (b || is_among_steps xs m) ≡ true
          → (is_among_steps xs m ≡ true → slots_in model shape input m ≡ slot_among xs (Measure m))
          → slots_in model shape input m
          ≡ option_map_or (λ s. s.slot) (cond b (Some x) (find (λ s. is_same_look (Measure m) (Measure s.name)) xs)) Poisoned
      by true e h rest = ap (slots_in model shape input) (same_name_is m x.name e) ∙ sym a.0
      by false e h rest = rest h

  module _ (earlier : List DerivationStep) (slots : Each HasSlot earlier) where
    agree : (looks : List Look) → list_all (is_among_steps earlier) (filter_map measure_of looks) ≡ true
        → AgreeAt (slots_in model shape input) (λ c. slot_among earlier (Measure c)) looks
    agree [] h = tt
    agree (Measure c ∷ looks) h =
        let both = and_parts (is_among_steps earlier c) (list_all (is_among_steps earlier) (filter_map measure_of looks)) h in
        (slot_found c earlier slots both.0, agree looks both.1)
    agree (Presence key ∷ looks) h = agree looks h

    -- so it is where all measures that it looks at are among the steps
    pub step_is_slot : StepsRead → (c : CellName) (rule : Rule) → assigning_rule model shape (Measure c) ≡ Some rule
        → is_levelled_in model shape (Measure c) ≡ true → list_all (is_among_steps earlier) (measures_looked_at model shape c) ≡ true
        → slots_in model shape input c ≡ node_step model shape (Measure c) (slot_among earlier)
    step_is_slot law c rule e l h =
        slot_is_step model shape law input (round_count shape) c rule e l
        ∙ law model shape 0 rule c.key (slots_in model shape input) (λ m. slot_among earlier (Measure m))
        (agree (looks_of (site_in model shape 0 c.key) rule.right)
        (ap (λ o. list_all (is_among_steps earlier) (filter_map measure_of (looks_or_none (looked model shape (Measure c) o))))
        (sym e) ∙ h))
        ∙ ap (stepped model shape (Measure c) (slot_among earlier)) (sym e)
