-- Two sides of a change: what is no seed stands alike, and what is not affected stays.
use Rattle.std.proofs.Common.{◌≡◌, ℕ, ◌-◌, Bool, true, false, not, ◌&&◌, ◌||◌, ◌==◌, List, Option, Some, None, IsSome, slice_get, refl, sym, ap, ◌∙◌}
use Rattle.std.specs.Map.{keys_of}
use Rattle.std.specs.Option.{option_and_then}
use Rattle.std.specs.Ordering.{is_ne}
use Rattle.std.specs.declared.cmp.Ordering.{Ordering}
use Rattle.std.specs.declared.cmp.Ordering.TheVariants.{Less, Equal, Greater}
use Rattle.std.proofs.lemmas.Bool.{eqb-true}
use Rattle.mq_values.specs.Order.{cmp_value}
use Rattle.mq_values.specs.OrderTells.{same_value}
use Rattle.mq_ir.specs.declared.query.CellName.{CellName}
use Rattle.mq_ir.specs.declared.query.Look.{Look}
use Rattle.mq_ir.specs.declared.query.Look.TheVariants.{Measure, Presence}
use Rattle.mq_ir.specs.declared.query.PartShape.{PartShape}
use Rattle.mq_ir.specs.declared.query.Rule.{Rule}
use Rattle.mq_ir.specs.declared.query.Slot.{Slot}
use Rattle.mq_ir.specs.declared.query.Slot.TheVariants.{Done}
use Rattle.mq_ir.specs.Affected.{Side, are_same_looks, assignment_differs, input_differs, is_seed, looks_or_none}
use Rattle.mq_ir.specs.Automatic.{input_slot, node_looks, rule_at, system_of}
use Rattle.mq_ir.specs.Keys.{is_among}
use Rattle.mq_ir.specs.Reads.{measure_at}
use Rattle.mq_ir.specs.Rounds.{System}
use Rattle.mq_ir.specs.Unfolding.{Model}
use Rattle.mq_change_laws.specs.ApartLaws.{Apart}
use Rattle.mq_change_laws.specs.NodeLaws.{StepsRead, looked, reads_looks}
use Rattle.mq_change_laws.specs.ShapeLaws.{IsSound}
use Rattle.mq_change_laws.specs.SoundLaws.{not_based, null_at, ruled_at, unassigned_at, unplaced}
use Rattle.mq_change_laws.proofs.StepLemmas.{StepsSame, one_list, steps_alike}

equal_value : (o : Ordering) → is_ne o ≡ false → o ≡ Equal
equal_value Less h = cc
equal_value Equal h = refl
equal_value Greater h = cc

-- what two lists of looks of one rule are, where they are one
looks_from : (model : Model) (old new : PartShape) (t : Look) (o : Option Rule) → looks_or_none (looked model old t o) ≡ looks_or_none (looked model new t o)
    → looked model new t o ≡ looked model old t o
looks_from model old new t None h = refl
looks_from model old new t (Some rule) h = ap Some (sym h)

not_both : (a b : Bool) → (not a || not b) ≡ false → (a ≡ true) × (b ≡ true)
not_both true true h = (refl, refl)
not_both true false h = cc
not_both false b h = cc

module _ (model : Model) (old new : Side) (before : IsSound model (keys_of old.input) old.shape) (after : IsSound model (keys_of new.input) new.shape) where
  -- a measure that stands alike on both sides
  record Alike (c : CellName) : Type 0 where
    rule : rule_at new.shape (Measure c) ≡ rule_at old.shape (Measure c)
    looks : node_looks model new.shape (Measure c) ≡ node_looks model old.shape (Measure c)
    input : node_looks model new.shape (Measure c) ≡ None → measure_at new.input c ≡ measure_at old.input c

  -- a cell that is in neither set
  alike_nowhere : (c : CellName) → is_among old.shape.cells c.key ≡ false → is_among new.shape.cells c.key ≡ false → Alike c
  alike_nowhere c e f =
      let old_rule = unplaced model old before c e in
      let new_rule = unplaced model new after c f in
      record {
        rule = new_rule ∙ sym old_rule;
        looks = unassigned_at model new after c new_rule ∙ sym (unassigned_at model old before c old_rule);
        input = λ h. null_at model new after c (not_based model new after c.key f) ∙ sym (null_at model old before c (not_based model old before c.key e));
      }

  -- a measure that nothing assigns, with the same input
  alike_input : (c : CellName) → input_differs old new c ≡ false → measure_at new.input c ≡ measure_at old.input c
  alike_input c h = by (is_among old.shape.base c.key) refl (is_among new.shape.base c.key) refl h
    where
      differ : Bool
      differ = is_ne (cmp_value (measure_at old.input c) (measure_at new.input c))

      by : (x : Bool) → is_among old.shape.base c.key ≡ x → (y : Bool) → is_among new.shape.base c.key ≡ y
          → (((x && not y) || (y && not x)) || ((x && y) && differ)) ≡ false → measure_at new.input c ≡ measure_at old.input c
      by true e true f h = sym (same_value (measure_at old.input c) (measure_at new.input c) (equal_value (cmp_value (measure_at old.input c) (measure_at new.input c)) h))
      by true e false f h = cc
      by false e true f h = cc
      by false e false f h = null_at model new after c f ∙ sym (null_at model old before c e)

  abbrev rule_in : Look → PartShape → Option ℕ → Option (List Look)
  rule_in t shape o = looked model shape t (option_and_then (λ number. slice_get model.part.rules (number - 1)) o)

  never_ruled : (shape : PartShape) (t : Look) (o : Option Rule) → IsSome o → looked model shape t o ≡ None → ⊥
  never_ruled shape t None h k = cc
  never_ruled shape t (Some rule) h k = cc

  -- a cell that is in both sets
  alike_by : (c : CellName) (x : Option ℕ) → rule_at old.shape (Measure c) ≡ x → (y : Option ℕ) → rule_at new.shape (Measure c) ≡ y
      → assignment_differs model old new c x y ≡ false → Alike c
  alike_by c None e None f h = record {
    rule = f ∙ sym e;
    looks = unassigned_at model new after c f ∙ sym (unassigned_at model old before c e);
    input = λ k. alike_input c h;
  }
  alike_by c None e (Some b) f h = cc
  alike_by c (Some a) e None f h = cc
  alike_by c (Some a) e (Some b) f h =
      let t : Look = Measure c in
      let both = not_both (a == b) (are_same_looks (looks_or_none (node_looks model old.shape t)) (looks_or_none (node_looks model new.shape t))) h in
      let number : a ≡ b = eqb-true a b both.0 in
      let rule : rule_at new.shape t ≡ rule_at old.shape t = f ∙ sym (ap Some number) ∙ sym e in
      let same : looks_or_none (node_looks model old.shape t) ≡ looks_or_none (node_looks model new.shape t) =
      one_list (looks_or_none (node_looks model old.shape t)) (looks_or_none (node_looks model new.shape t)) both.1 in
      record {
        rule = rule;
        looks =
            ap (rule_in t new.shape) rule
            ∙ looks_from model old.shape new.shape t (option_and_then (λ number. slice_get model.part.rules (number - 1)) (rule_at old.shape t))
            (same ∙ ap (λ o. looks_or_none (rule_in t new.shape o)) rule);
        input = λ k. absurd (never_ruled new.shape t (slice_get model.part.rules (b - 1)) (ruled_at model new after c b f) (sym (ap (rule_in t new.shape) f) ∙ k));
      }

  alike : (c : CellName) → is_seed model old new (Measure c) ≡ false → Alike c
  alike c h = by (is_among old.shape.cells c.key) refl (is_among new.shape.cells c.key) refl h
    where
      differs : Bool
      differs = assignment_differs model old new c (rule_at old.shape (Measure c)) (rule_at new.shape (Measure c))

      by : (x : Bool) → is_among old.shape.cells c.key ≡ x → (y : Bool) → is_among new.shape.cells c.key ≡ y
          → (((x && not y) || (y && not x)) || ((x && y) && differs)) ≡ false → Alike c
      by true e true f h = alike_by c (rule_at old.shape (Measure c)) refl (rule_at new.shape (Measure c)) refl h
      by true e false f h = cc
      by false e true f h = cc
      by false e false f h = alike_nowhere c e f

  pub rule_alike : (t : Look) → is_seed model old new t ≡ false → rule_at new.shape t ≡ rule_at old.shape t
  rule_alike (Measure c) h = (alike c h).rule
  rule_alike (Presence key) h = refl

  pub looks_alike : (t : Look) → is_seed model old new t ≡ false → node_looks model new.shape t ≡ node_looks model old.shape t
  looks_alike (Measure c) h = (alike c h).looks
  looks_alike (Presence key) h = refl

  input_alike : (t : Look) → is_seed model old new t ≡ false → node_looks model new.shape t ≡ None → input_slot new.input t ≡ input_slot old.input t
  input_alike (Measure c) h k = ap Done ((alike c h).input k)
  input_alike (Presence key) h k = refl

  module _ (read : StepsRead) (same : StepsSame) where
    abbrev old_system : System Look Slot
    old_system = system_of model old.shape old.input

    abbrev new_system : System Look Slot
    new_system = system_of model new.shape new.input

    pub apart : Apart old_system new_system (is_seed model old new)
    apart = record {
      reads = reads_looks model new.shape read new.input;
      unknown = refl;
      looks = looks_alike;
      input = input_alike;
      step = λ t s none f.
          sym (steps_alike same model old new t before.ascend after.ascend (sym (rule_alike t s)) (sym (looks_alike t s)) none f);
    }
