-- The slots of a partition, and a store that holds some of them.
use Rattle.std.proofs.Common.{◌≡◌, ℕ, suc, Bool, true, false, List, [], ◌∷◌, Option, Some, None, cond, refl, sym, ap, subst, ◌∙◌, arith, eqb}
use Rattle.std.specs.List.{list_all}
use Rattle.std.specs.Option.{option_map, option_map_or}
use Rattle.std.specs.Prelude.{unwrap_or}
use Rattle.std.specs.Ordering.{is_eq}
use Rattle.std.specs.declared.cmp.Ordering.{Ordering}
use Rattle.std.specs.declared.cmp.Ordering.TheVariants.{Less, Equal, Greater}
use Rattle.std.proofs.lemmas.Bool.{and_from, and_parts, eq-eqb, eqb-true}
use Rattle.mq_values.specs.Order.{cmp_key}
use Rattle.mq_values.specs.OrderTells.{key_itself, same_key}
use Rattle.mq_ir.specs.declared.query.CellName.{CellName}
use Rattle.mq_ir.specs.declared.query.Look.{Look}
use Rattle.mq_ir.specs.declared.query.Look.TheVariants.{Measure, Presence}
use Rattle.mq_ir.specs.declared.query.PartShape.{PartShape}
use Rattle.mq_ir.specs.declared.query.Rule.{Rule}
use Rattle.mq_ir.specs.declared.query.Slot.{Slot}
use Rattle.mq_ir.specs.declared.query.Slot.TheVariants.{Done, Poisoned}
use Rattle.mq_ir.specs.AffectedLaws.{enough_rounds}
use Rattle.mq_ir.specs.Automatic.{assigning_rule, cell_of, node_looks, round_count, slots_in, system_of}
use Rattle.mq_ir.specs.Keys.{Tuple, is_same}
use Rattle.mq_ir.specs.Looks.{looks_of}
use Rattle.mq_ir.specs.Partitions.{Cells, cell_at}
use Rattle.mq_ir.specs.ReadLaws.{AgreeAt, StepReadsItsLooks}
use Rattle.mq_ir.specs.RoundLaws.{levelled_stays}
use Rattle.mq_ir.specs.Rounds.{levelled, value}
use Rattle.mq_ir.specs.Slots.{Slots, cell_slot, site_in}
use Rattle.mq_ir.specs.Unfolding.{Model}
use Rattle.mq_cells.specs.Stores.{CellInput, DiffersAt, Results, input_value, is_named, slot_at}
use Rattle.mq_auto.specs.Meaning.{HoldsValues, result_at}
use Rattle.mq_auto.specs.Walks.{AreRightWithin, IsRight, StayRight}
use Rattle.mq_auto.proofs.SettledLemmas.{ReadsLooks, SameAt, looks_levelled, settled, unassigned_value, assigned_value}

-- what a step reads, of every rule and target
abbrev pub StepsRead : Type 0
StepsRead = (model : Model) (shape : PartShape) (turn : ℕ) (rule : Rule) (target : Tuple) → StepReadsItsLooks model shape turn rule target

pub is_equal : (o : Ordering) → is_eq o ≡ true → o ≡ Equal
is_equal Less h = cc
is_equal Equal h = refl
is_equal Greater h = cc

-- one name of a measure of a cell is the other
pub named_same : (c d : CellName) → is_named c d ≡ true → c ≡ d
named_same c d h =
    let both = and_parts (is_same c.key d.key) (eqb c.measure d.measure) h in
    let key : c.key ≡ d.key = same_key c.key d.key (is_equal (cmp_key c.key d.key) both.0) in
    let measure : c.measure ≡ d.measure = eqb-true c.measure d.measure both.1 in
    λ i. record { key = key i; measure = measure i }

named_itself : (c : CellName) → is_named c c ≡ true
named_itself c = and_from (is_same c.key c.key) (eqb c.measure c.measure) (ap is_eq (key_itself c.key)) (eq-eqb c.measure c.measure refl)

agree_from : (f g : Look → Slot) (looks : List Look) → SameAt f g looks → AgreeAt (λ c. f (Measure c)) (λ c. g (Measure c)) looks
agree_from f g [] h = tt
agree_from f g (Measure c ∷ looks) h = (h.0, agree_from f g looks h.1)
agree_from f g (Presence key ∷ looks) h = agree_from f g looks h.1

module _ (model : Model) (shape : PartShape) (input : Cells) where
  -- the slot of a node by the rule that assigns it
  abbrev stepped : Look → (Look → Slot) → Option Rule → Slot
  stepped t f o = option_map_or (λ rule. cell_slot model shape 0 rule (cell_of t) (λ c. f (Measure c))) o Poisoned

  abbrev looked : Look → Option Rule → Option (List Look)
  looked t o = option_map (λ rule. looks_of (site_in model shape 0 (cell_of t)) rule.right) o

  abbrev slots : Slots
  slots = slots_in model shape input

  module _ (results : Results) where
    right_slot_by : (c : CellName) (o : Option (List Look)) → node_looks model shape (Measure c) ≡ o → unwrap_or (option_map (λ looks. slots c) o) (Done (input_value (cell_at input) c)) ≡ slots c
    right_slot_by c None e = sym (unassigned_value (system_of model shape input) (round_count shape) (Measure c) e)
    right_slot_by c (Some looks) e = refl

    -- where the right result stands, a read gives the slot in the end
    pub right_slot : (c : CellName) → IsRight model shape input results c → slot_at (cell_at input) results c ≡ slots c
    right_slot c h = ap (λ o. unwrap_or o (Done (input_value (cell_at input) c))) h ∙ right_slot_by c (node_looks model shape (Measure c)) refl

    right_looks : (n : ℕ) → AreRightWithin model shape input n results → (looks : List Look) → list_all (levelled (node_looks model shape) n) looks ≡ true
        → AgreeAt (slot_at (cell_at input) results) slots looks
    right_looks n right [] h = tt
    right_looks n right (Measure c ∷ looks) h =
        let both = and_parts (levelled (node_looks model shape) n (Measure c)) (list_all (levelled (node_looks model shape) n) looks) h in
        (right_slot c (right c both.0), right_looks n right looks both.1)
    right_looks n right (Presence key ∷ looks) h =
        let both = and_parts (levelled (node_looks model shape) n (Presence key)) (list_all (levelled (node_looks model shape) n) looks) h in
        right_looks n right looks both.1

  -- a store that holds the values gives the slots in the end
  pub held_slots : (given : CellInput) (results : Results) → HoldsValues model shape input given results → slot_at given results ≡ slots
  held_slots given results h = (λ i. slot_at (h.given_is i) results) ∙ (λ i c. right_slot results c (h.results_are c) i)

  -- where a rule assigns a measure, its slot in the end is to stand there
  pub result_is : (c : CellName) (rule : Rule) → assigning_rule model shape (Measure c) ≡ Some rule → result_at model shape input c ≡ Some (slots c)
  result_is c rule e = ap (λ o. option_map (λ looks. slots c) (looked (Measure c) o)) e

  -- a right slot is put: it stands there, and what was right stays so
  pub put_right : (before after : Results) (c : CellName) (slot : Slot) → DiffersAt before after c (Some slot) → Some slot ≡ result_at model shape input c
      → StayRight model shape input before after × IsRight model shape input after c
  put_right before after c slot differs is = (λ d. stay d (is_named c d) refl, differs c ∙ ap (λ b. cond b (Some slot) (before c)) (named_itself c) ∙ is)
    where
      stay : (d : CellName) (b : Bool) → is_named c d ≡ b → IsRight model shape input before d → IsRight model shape input after d
      stay d true e right = differs d ∙ ap (λ b. cond b (Some slot) (before d)) e ∙ is ∙ ap (result_at model shape input) (named_same c d e)
      stay d false e right = differs d ∙ ap (λ b. cond b (Some slot) (before d)) e ∙ right

module _ (law : StepsRead) (model : Model) (shape : PartShape) (input : Cells) where
  reads_by : (t : Look) (looks : List Look) (o : Option Rule) → assigning_rule model shape t ≡ o → looked model shape input t o ≡ Some looks → (f g : Look → Slot) → SameAt f g looks
      → stepped model shape input t f o ≡ stepped model shape input t g o
  reads_by t looks None e h f g same = refl
  reads_by t looks (Some rule) e h f g same =
      let is : looks_of (site_in model shape 0 (cell_of t)) rule.right ≡ looks = ap (λ o. unwrap_or o []) h in
      law model shape 0 rule (cell_of t) (λ c. f (Measure c)) (λ c. g (Measure c)) (subst (AgreeAt (λ c. f (Measure c)) (λ c. g (Measure c))) (sym is) (agree_from f g looks same))

  pub reads_looks : ReadsLooks (system_of model shape input)
  reads_looks t looks h f g same = reads_by t looks (assigning_rule model shape t) refl h f g same

  -- the slot of an assigned measure is its rule's over the slots
  slot_is : (c : CellName) (rule : Rule) (n : ℕ) → assigning_rule model shape (Measure c) ≡ Some rule → levelled (node_looks model shape) n (Measure c) ≡ true
      → slots_in model shape input c ≡ cell_slot model shape 0 rule c.key (slots_in model shape input)
  slot_is c rule n e h =
      let s = system_of model shape input in
      let count = round_count shape in
      let t : Look = Measure c in
      let looks : node_looks model shape t ≡ Some (looks_of (site_in model shape 0 c.key) rule.right) = ap (looked model shape input t) e in
      let enough : levelled (node_looks model shape) count t ≡ true = enough_rounds model shape n t h in
      let more : levelled (node_looks model shape) (suc count) t ≡ true = levelled_stays (node_looks model shape) count (suc count) (omega arith) t enough in
      settled s reads_looks count (suc count) t enough more
      ∙ assigned_value s count t (looks_of (site_in model shape 0 c.key) rule.right) looks
      ∙ ap (stepped model shape input t (value s count)) e

  -- what a rule makes of a target of the next round is its slot in the end
  pub found_slot : (results : Results) (c : CellName) (rule : Rule) (n : ℕ) → assigning_rule model shape (Measure c) ≡ Some rule → levelled (node_looks model shape) (suc n) (Measure c) ≡ true
      → AreRightWithin model shape input n results → cell_slot model shape 0 rule c.key (slot_at (cell_at input) results) ≡ slots_in model shape input c
  found_slot results c rule n e h right =
      let site = site_in model shape 0 c.key in
      let looks : node_looks model shape (Measure c) ≡ Some (looks_of site rule.right) = ap (looked model shape input (Measure c)) e in
      law model shape 0 rule c.key (slot_at (cell_at input) results) (slots_in model shape input)
      (right_looks model shape input results n right (looks_of site rule.right) (looks_levelled (system_of model shape input) n (Measure c) (looks_of site rule.right) looks h))
      ∙ sym (slot_is c rule (suc n) e h)
