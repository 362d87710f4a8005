-- The steps of a derivation are accepted.
use Rattle.std.proofs.Common.{◌≡◌, ℕ, Bool, true, false, not, ◌||◌, List, [], ◌∷◌, ◌++◌, map, Option, Some, None, Ordering, Less, refl, sym, ap, ◌∙◌, inl, inr}
use Rattle.std.specs.Prelude.{is_none}
use Rattle.std.specs.Cmp.{nat_cmp_is, tied_itself}
use Rattle.std.specs.List.{list_all}
use Rattle.std.specs.Map.{keys_of}
use Rattle.std.specs.Ordering.{is_lt, nat_cmp, ordering_then}
use Rattle.std.proofs.lemmas.Bool.{and_parts, or_cases}
use Rattle.mq_ir.specs.declared.query.CellName.{CellName}
use Rattle.mq_ir.specs.declared.query.DerivationStep.{DerivationStep}
use Rattle.mq_ir.specs.declared.query.Look.{Look}
use Rattle.mq_ir.specs.declared.query.Look.TheVariants.{Measure}
use Rattle.mq_ir.specs.declared.query.PartInput.{PartInput}
use Rattle.mq_ir.specs.declared.query.PartShape.{PartShape}
use Rattle.mq_ir.specs.Automatic.{cycle_in, node_looks, round_count, rule_at, slots_in, system_of}
use Rattle.mq_ir.specs.Derivations.{AreAccepted, IsAccepted, assigned_names, cmp_name, derivation, derived_sources, given_sources, is_among_steps, is_given, is_same_measure, is_source, measures_looked_at, round_of, step_of}
use Rattle.mq_ir.specs.EachLaws.{Each, each_of}
use Rattle.mq_ir.specs.Looks.{looks_of}
use Rattle.mq_ir.specs.Partitions.{Cells}
use Rattle.mq_ir.specs.Rising.{Low, Rising}
use Rattle.mq_ir.specs.Slots.{site_in}
use Rattle.mq_ir.specs.Unfolding.{Model}
use Rattle.mq_change_laws.specs.CycleLaws.{all_levelled}
use Rattle.mq_change_laws.specs.NodeLaws.{StepsRead, looked}
use Rattle.mq_change_laws.specs.SettledLaws.{unassigned_value}
use Rattle.mq_derivation_laws.specs.DerivationLaws.{DerivationIsAccepted}
use Rattle.mq_derivation_laws.proofs.GivenLemmas.{cmp_derived, derived_assigned, derived_rise, derived_total, given_pass, source_there}
use Rattle.mq_derivation_laws.proofs.NameLemmas.{all_from, among_steps, has, same_name_is, unruled_alike}
use Rattle.mq_derivation_laws.proofs.RoundLemmas.{earlier_round}
use Rattle.mq_derivation_laws.proofs.RuledLemmas.{AreRuled, rule_known, shape_made, shape_ruled}
use Rattle.mq_derivation_laws.proofs.SlotLemmas.{HasSlot, step_is_slot}
use Rattle.mq_derivation_laws.proofs.SourceLemmas.{source_closed, unruled_looks}

moved : (a b c : Bool) → (b || (a || c)) ≡ true → ((a || b) || c) ≡ true
moved true b c h = refl
moved false b c h = h

-- nothing that stands behind x is less than x
low_at : (R : CellName → CellName → Ordering) (m x : CellName) (ys : List CellName) → Low R x ys → has ys m ≡ true → is_lt (R m x) ≡ false
low_at R m x [] l h = cc
low_at R m x (y ∷ ys) l h =
    elim (or_cases (is_same_measure m y) (has ys m) h) [
      | inl e ↦ ap (λ n. is_lt (R n x)) (same_name_is m y e) ∙ l.0
      | inr k ↦ low_at R m x ys l.1 k
    ]

module _ (model : Model) (shape : PartShape) (input : Cells) (target : CellName)
    (law : StepsRead) (ruled : AreRuled model shape.assigned) (none : cycle_in model shape ≡ None) where
  abbrev steps : List CellName → List DerivationStep
  steps = map (step_of model shape input)

  -- a measure is among the steps so far, or still to come
  abbrev HasOrAwaits : List CellName → List CellName → CellName → Type 0
  HasOrAwaits earlier rest m = (has earlier m || has rest m) ≡ true

  -- so is each source
  abbrev HasSources : List CellName → List CellName → Type 0
  HasSources earlier rest = (m : CellName) → is_source model shape target m ≡ true → HasOrAwaits earlier rest m

  next_sources : (x : CellName) (earlier rest : List CellName) → HasSources earlier (x ∷ rest) → HasSources (x ∷ earlier) rest
  next_sources x earlier rest h m s = moved (is_same_measure m x) (has earlier m) (has rest m) (h m s)

  given_accepted : (earlier : List DerivationStep) (c : CellName) → is_given model shape target c ≡ true
      → (o : Option ℕ) → rule_at shape (Measure c) ≡ o
      → IsAccepted model shape input earlier (record { name = c; rule = o; slot = slots_in model shape input c })
  given_accepted earlier c g None e =
      (e, unassigned_value (system_of model shape input) (round_count shape) (Measure c) (unruled_looks model shape c e))
  given_accepted earlier c g (Some number) e =
      let k : false ≡ true = sym (ap is_none e) ∙ (and_parts (is_none (rule_at shape (Measure c))) (is_source model shape target c) g).0 in
      cc

  -- what a derived source looks at stands before it
  looks_before : (c m : CellName) (looks : List Look) (earlier rest : List CellName) → node_looks model shape (Measure c) ≡ Some looks
      → Low (cmp_derived model shape target) c rest → HasOrAwaits earlier (c ∷ rest) m → has (measures_looked_at model shape c) m ≡ true
      → has earlier m ≡ true
  looks_before c m looks earlier rest e l h at =
      elim (or_cases (has earlier m) (has (c ∷ rest) m) h) [
        | inl k ↦ k
        | inr k ↦ let no : true ≡ false =
            ap (λ r. is_lt (ordering_then r (cmp_name m c))) less ∙ low_at (cmp_derived model shape target) m c (c ∷ rest) (itself, l) k in cc
      ]
    where
      itself : is_lt (cmp_derived model shape target c c) ≡ false
      itself = ap is_lt (tied_itself (derived_total model shape target) c)

      less : Less ≡ nat_cmp (round_of model shape m) (round_of model shape c)
      less = nat_cmp_is (round_of model shape m) (round_of model shape c) Less
          (earlier_round model shape c m looks e (all_levelled model shape none (Measure c)) at)

  derived_accepted : (c : CellName) (earlier rest : List CellName) → Low (cmp_derived model shape target) c rest
      → (is_source model shape target c ≡ true) × (has (assigned_names shape) c ≡ true) → HasSources earlier (c ∷ rest)
      → (o : Option ℕ) → rule_at shape (Measure c) ≡ o
      → IsAccepted model shape input (steps earlier) (record { name = c; rule = o; slot = slots_in model shape input c })
  derived_accepted c earlier rest l a h None e =
      let k : true ≡ false = sym (ap is_none e) ∙ unruled_alike shape c ∙ ap not a.1 in
      cc
  derived_accepted c earlier rest l a h (Some number) e =
      let rule = rule_known model shape ruled c number e in
      let looks : List Look = looks_of (site_in model shape 0 c.key) rule.0.right in
      let is : node_looks model shape (Measure c) ≡ Some looks = ap (looked model shape (Measure c)) rule.1 in
      let there : list_all (is_among_steps (steps earlier)) (measures_looked_at model shape c) ≡ true =
      all_from (is_among_steps (steps earlier)) (measures_looked_at model shape c)
      (λ m at. among_steps model shape input m earlier
      ∙ looks_before c m looks earlier rest is l (h m (source_closed model shape target c m a.0 at)) at) in
      let slots = each_of (HasSlot model shape input) (step_of model shape input) (λ m. refl) earlier in (
        e,
        there,
        step_is_slot model shape input (steps earlier) slots law c rule.0 rule.1 (all_levelled model shape none (Measure c)) there,
      )

  -- the derived sources behind all that they look at, and the given ones in front of them
  derived_last : (derived earlier : List CellName) → Rising (cmp_derived model shape target) derived
      → Each (λ c. (is_source model shape target c ≡ true) × (has (assigned_names shape) c ≡ true)) derived → HasSources earlier derived
      → AreAccepted model shape input (steps earlier) (steps derived)
  derived_last [] earlier r a h = tt
  derived_last (c ∷ rest) earlier r a h = (
    derived_accepted c earlier rest r.0 a.0 h (rule_at shape (Measure c)) refl,
    derived_last rest (c ∷ earlier) r.1 a.1 (next_sources c earlier rest h),
  )

  given_first : (given derived earlier : List CellName) → Each (λ c. is_given model shape target c ≡ true) given
      → Rising (cmp_derived model shape target) derived
      → Each (λ c. (is_source model shape target c ≡ true) × (has (assigned_names shape) c ≡ true)) derived
      → HasSources earlier (given ++ derived)
      → AreAccepted model shape input (steps earlier) (steps (given ++ derived))
  given_first [] derived earlier g r a h = derived_last derived earlier r a h
  given_first (c ∷ given) derived earlier g r a h = (
    given_accepted (steps earlier) c g.0 (rule_at shape (Measure c)) refl,
    given_first given derived (c ∷ earlier) g.1 r a (next_sources c earlier (given ++ derived) h),
  )

  all_accepted : AreAccepted model shape input [] (derivation model shape input target)
  all_accepted =
      given_first (given_sources model shape target) (derived_sources model shape target) [] (given_pass model shape target)
      (derived_rise model shape target) (derived_assigned model shape target) (source_there model shape target)

pub derivation_accepted : StepsRead → (model : Model) (p : PartInput) (shape : PartShape) (target : CellName)
    → DerivationIsAccepted model p shape target
derivation_accepted law model p shape target h =
    let made = shape_made model p shape h in
    all_accepted model shape p.cells target law (shape_ruled model (keys_of p.cells) shape made.0) made.1
