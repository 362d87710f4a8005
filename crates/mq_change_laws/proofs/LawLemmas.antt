-- The laws of a change.
use Rattle.std.proofs.Common.{◌≡◌, ℕ, Bool, true, false, not, ◌&&◌, ◌||◌, Some, refl, sym, ap, ◌∙◌}
use Rattle.std.specs.Map.{keys_of}
use Rattle.std.specs.Option.{option_map}
use Rattle.std.proofs.lemmas.Bool.{eq-eqb, or_from, or_parts}
use Rattle.mq_ir.specs.declared.query.CellName.{CellName}
use Rattle.mq_ir.specs.declared.query.Look.{Look}
use Rattle.mq_ir.specs.declared.query.Look.TheVariants.{Measure}
use Rattle.mq_ir.specs.declared.query.Slot.{Slot}
use Rattle.mq_ir.specs.Affected.{Side, are_same_looks, assignment_differs, is_affected, is_seed, looks_or_none}
use Rattle.mq_ir.specs.AffectedLaws.{enough_rounds}
use Rattle.mq_ir.specs.Automatic.{node_looks, round_count, rule_at, system_of}
use Rattle.mq_ir.specs.Keys.{is_among}
use Rattle.mq_ir.specs.Rounds.{levelled, some_look, value}
use Rattle.mq_ir.specs.Unfolding.{Model}
use Rattle.mq_change_laws.specs.ApartLaws.{keeps, no_seed}
use Rattle.mq_change_laws.specs.ChangeLaws.{AssignmentStays, CyclesAreAffected, LevelStays, OtherLooksAreSeeds, ResultStays, UnaffectedIsUntouched, ValueStays}
use Rattle.mq_change_laws.specs.NodeLaws.{StepsRead, reads_looks}
use Rattle.mq_change_laws.specs.PoisonedLaws.{unlevelled_poisoned}
use Rattle.mq_change_laws.specs.SettledLaws.{settled}
use Rattle.mq_change_laws.specs.ShapeLaws.{IsSound}
use Rattle.mq_change_laws.specs.CycleLaws.{all_levelled}
use Rattle.mq_change_laws.specs.ReachLaws.{by_looks, never_reached, told_alike}
use Rattle.mq_change_laws.specs.SoundLaws.{placed_at}
use Rattle.mq_change_laws.specs.Sides.{IsShaped, is_levelled_in}
use Rattle.mq_change_laws.proofs.GrowthLemmas.{shape_is_sound}
use Rattle.mq_change_laws.proofs.SideLemmas.{apart, looks_alike, rule_alike}
use Rattle.mq_change_laws.proofs.StepLemmas.{StepsSame, list_itself}

pub sound_side : (model : Model) (side : Side) → IsShaped model side → IsSound model (keys_of side.input) side.shape
sound_side model side s = shape_is_sound model (keys_of side.input) side.shape s.keys s.shape

-- a measure that one rule assigns in both shapes
pub other_looks : (model : Model) (old new : Side) (c : CellName) (number : ℕ) → OtherLooksAreSeeds model old new c number
other_looks model old new c number s t e f =
    (λ i. is_in_one_at (before i) (after i) || ((before i && after i) && assignment_differs model old new c (e i) (f i)))
    ∙ ap (λ b. not b || not (are_same_looks (looks_or_none (node_looks model old.shape (Measure c))) (looks_or_none (node_looks model new.shape (Measure c))))) (eq-eqb number number refl)
  where
    is_in_one_at : Bool → Bool → Bool
    is_in_one_at x y = (x && not y) || (y && not x)

    before : is_among old.shape.cells c.key ≡ true
    before = placed_at model old (sound_side model old s) c number e

    after : is_among new.shape.cells c.key ≡ true
    after = placed_at model new (sound_side model new t) c number f

-- what is not affected is assigned as before
pub assignment_stays : (model : Model) (old new : Side) (node : Look) → AssignmentStays model old new node
assignment_stays model old new node s t h =
    let before = sound_side model old s in
    let after = sound_side model new t in
    let seed : is_seed model old new node ≡ false = no_seed (node_looks model new.shape) (is_seed model old new) (round_count new.shape) node h in
    (rule_alike model old new before after node seed, looks_alike model old new before after node seed)

-- a measure that one rule assigns in both shapes, with the same looks of which none is affected
pub unaffected_untouched : (model : Model) (old new : Side) (c : CellName) (number : ℕ) → UnaffectedIsUntouched model old new c number
unaffected_untouched model old new c number s t f = (forth, back)
  where
    node : Look
    node = Measure c

    Same : Type 0
    Same = (rule_at old.shape node ≡ Some number) × (node_looks model old.shape node ≡ node_looks model new.shape node) × (some_look (is_affected model old new) (node_looks model new.shape node) ≡ false)

    forth : is_affected model old new node ≡ false → Same
    forth h =
        let stays = assignment_stays model old new node s t h in
        (sym stays.0 ∙ f, sym stays.1, (or_parts (is_seed model old new node) (some_look (is_affected model old new) (node_looks model new.shape node)) (sym (by_looks model old new node) ∙ h)).1)

    back : Same → is_affected model old new node ≡ false
    back h =
        by_looks model old new node
        ∙ or_from (is_seed model old new node) (some_look (is_affected model old new) (node_looks model new.shape node))
        (other_looks model old new c number s t h.0 f
        ∙ ap (λ o. not (are_same_looks (looks_or_none (node_looks model old.shape node)) (looks_or_none o))) (sym h.1)
        ∙ ap not (list_itself (looks_or_none (node_looks model old.shape node)))) h.2

module _ (read : StepsRead) (same : StepsSame) (model : Model) (old new : Side) (s : IsShaped model old) (t : IsShaped model new) (node : Look) (h : is_affected model old new node ≡ false) where
  abbrev old_levels : ℕ → Bool
  old_levels n = levelled (node_looks model old.shape) n node

  abbrev new_levels : ℕ → Bool
  new_levels n = levelled (node_looks model new.shape) n node

  abbrev old_value : ℕ → Slot
  old_value n = value (system_of model old.shape old.input) n node

  abbrev new_value : ℕ → Slot
  new_value n = value (system_of model new.shape new.input) n node

  kept : (n : ℕ) → (new_levels n ≡ old_levels n) × (new_value n ≡ old_value n)
  kept n =
      keeps (system_of model old.shape old.input) (system_of model new.shape new.input) (is_seed model old new)
      (apart model old new (sound_side model old s) (sound_side model new t) read same) n node (never_reached model old new n node h)

  -- as many rounds as the new shape has assignments are enough for the old one here
  old_enough : old_levels (round_count new.shape) ≡ old_levels (round_count old.shape)
  old_enough =
      told_alike (old_levels (round_count new.shape)) (old_levels (round_count old.shape))
      (λ l. enough_rounds model old.shape (round_count new.shape) node l)
      (λ l. sym (kept (round_count new.shape)).0 ∙ enough_rounds model new.shape (round_count old.shape) node ((kept (round_count old.shape)).0 ∙ l))

  level_is : is_levelled_in model new.shape node ≡ is_levelled_in model old.shape node
  level_is = (kept (round_count new.shape)).0 ∙ old_enough

  -- so the old value stands, or is poisoned in every round
  old_settled : old_value (round_count new.shape) ≡ old_value (round_count old.shape)
  old_settled = by (old_levels (round_count old.shape)) refl
    where
      by : (b : Bool) → old_levels (round_count old.shape) ≡ b → old_value (round_count new.shape) ≡ old_value (round_count old.shape)
      by true e =
          settled (system_of model old.shape old.input) (reads_looks model old.shape read old.input) (round_count new.shape) (round_count old.shape) node (old_enough ∙ e) e
      by false e =
          unlevelled_poisoned model old.shape old.input (round_count new.shape) node (old_enough ∙ e)
          ∙ sym (unlevelled_poisoned model old.shape old.input (round_count old.shape) node e)

  value_is : new_value (round_count new.shape) ≡ old_value (round_count old.shape)
  value_is = (kept (round_count new.shape)).1 ∙ old_settled

module _ (read : StepsRead) (same : StepsSame) (model : Model) (old new : Side) where
  pub level_stays : (node : Look) → LevelStays model old new node
  level_stays node s t h = level_is read same model old new s t node h

  pub value_stays : (c : CellName) → ValueStays model old new c
  value_stays c s t h = value_is read same model old new s t (Measure c) h

  pub result_stays : (c : CellName) → ResultStays model old new c
  result_stays c s t h =
      λ i. option_map (λ looks. value_stays c s t h i) ((assignment_stays model old new (Measure c) s t h).1 i)

  pub cycle_affected : (node : Look) → CyclesAreAffected model old new node
  cycle_affected node s t none l = by (is_affected model old new node) refl
    where
      by : (b : Bool) → is_affected model old new node ≡ b → b ≡ true
      by true e = refl
      by false e = let k : true ≡ false = sym (all_levelled model old.shape none node) ∙ sym (level_stays node s t e) ∙ l in cc
