-- The slot of a target from what was seen at its looks.
use Rattle.std.proofs.Common.{◌≡◌, ℕ, List, Bool, true, false, Some, None, refl, sym, ap, ◌∙◌, subst}
use Rattle.std.specs.Prelude.{if◌then◌else◌}
use Rattle.std.specs.List.{list_all}
use Rattle.mq_values.specs.Convert.{cast_of}
use Rattle.mq_ir.specs.declared.query.Look.{Look}
use Rattle.mq_ir.specs.declared.query.Rule.{Rule}
use Rattle.mq_ir.specs.declared.query.Slot.{Slot}
use Rattle.mq_ir.specs.declared.query.Slot.TheVariants.{Poisoned}
use Rattle.mq_ir.specs.Keys.{Tuple}
use Rattle.mq_ir.specs.Looks.{looks_of}
use Rattle.mq_ir.specs.ReadLaws.{ReadsItsLooks}
use Rattle.mq_ir.specs.Reads.{Measures, Site, measure_kind, right_value}
use Rattle.mq_ir.specs.Results.{◌>>=◌}
use Rattle.mq_ir.specs.Slots.{Slots, done_value, is_known, slot_of}
use Rattle.mq_ir.specs.Unfolding.{Model}
use Rattle.mq_ir.specs.Worth.{Found, as_value}
use Rattle.mq_refs.specs.SlotsOver.{cell_slot_over}
use Rattle.mq_refs.specs.Sites.{site_with}
use Rattle.mq_refs.specs.Sightings.{AreSteady, seen_at, seen_if_known, value_seen}
use Rattle.mq_refs.specs.declared.sighting.Sighting.{Sighting}
use Rattle.mq_refs.proofs.SightLemmas.{agree_at, steady_at}

-- what was seen, and that every look is known
pub all_seen : (slots : Slots) (looks : List Look) (seen : List Sighting) → Some seen ≡ seen_if_known slots looks → (list_all (is_known slots) looks ≡ true) × (seen ≡ seen_at slots looks)
all_seen slots looks seen h = by (list_all (is_known slots) looks) refl h
  where
    by : (b : Bool) → list_all (is_known slots) looks ≡ b → Some seen ≡ (if b then Some (seen_at slots looks) else None) → (list_all (is_known slots) looks ≡ true) × (seen ≡ seen_at slots looks)
    by true e g = (e, cc)
    by false e g = cc

pub steady_seen : (slots : Slots) (looks : List Look) (seen : List Sighting) → Some seen ≡ seen_if_known slots looks → AreSteady seen
steady_seen slots looks seen h = subst AreSteady (sym (all_seen slots looks seen h).1) (steady_at slots looks)

module _ (model : Model) (set base : List Tuple) (turn : ℕ) (rule : Rule) (target : Tuple) (slots : Slots) where
  abbrev site : Site
  site = site_with model turn target set

  abbrev looked : List Look
  looked = looks_of site rule.right

  -- the slot over what was seen
  abbrev slot_with : Measures → Slot
  slot_with now = slot_of (right_value site base now rule)

  abbrev slot_from : Found → Slot
  slot_from found = slot_of (as_value found >>= (λ v. cast_of v (measure_kind model rule.measure)))

  pub slot_of_seen : (looks : List Look) (seen : List Sighting) (result : Slot) → ReadsItsLooks site base rule.right → looks ≡ looked → Some seen ≡ seen_if_known slots looks →
      result ≡ slot_with (value_seen seen) → result ≡ cell_slot_over model set base turn rule target slots
  slot_of_seen looks seen result law same h is =
      let all = all_seen slots looked seen (h ∙ ap (seen_if_known slots) same) in
      let there : Measures = λ c. done_value (slots c) in
      is
      ∙ ap (λ s. slot_with (value_seen s)) all.1
      ∙ ap slot_from (law (value_seen (seen_at slots looked)) there (agree_at slots looked))
      ∙ sym (ap (λ b. if b then slot_with there else Poisoned) all.0)
