-- The nodes of a partition as nodes that go by rounds: their steps read their looks alone, and their slots stand once
-- they are levelled.
use Rattle.std.proofs.Common.{◌≡◌, ℕ, zero, suc, true, List, [], ◌∷◌, Option, Some, None, refl, sym, ap, subst, ◌∙◌, arith}
use Rattle.std.specs.Option.{option_map, option_map_or}
use Rattle.std.specs.Prelude.{unwrap_or}
use Rattle.mq_ir.specs.declared.query.CellName.{CellName}
use Rattle.mq_ir.specs.declared.query.Look.{Look}
use Rattle.mq_ir.specs.declared.query.Look.TheVariants.{Measure, Presence}
use Rattle.mq_ir.specs.declared.query.PartShape.{PartShape}
use Rattle.mq_ir.specs.declared.query.Rule.{Rule}
use Rattle.mq_ir.specs.declared.query.Slot.{Slot}
use Rattle.mq_ir.specs.declared.query.Slot.TheVariants.{Poisoned}
use Rattle.mq_ir.specs.AffectedLaws.{enough_rounds}
use Rattle.mq_ir.specs.Automatic.{assigning_rule, cell_of, node_looks, round_count, slots_in, system_of}
use Rattle.mq_ir.specs.Keys.{Tuple}
use Rattle.mq_ir.specs.Looks.{looks_of}
use Rattle.mq_ir.specs.Partitions.{Cells}
use Rattle.mq_ir.specs.ReadLaws.{AgreeAt, StepReadsItsLooks}
use Rattle.mq_ir.specs.RoundLaws.{levelled_stays}
use Rattle.mq_ir.specs.Rounds.{levelled, value}
use Rattle.mq_ir.specs.Slots.{cell_slot, site_in}
use Rattle.mq_ir.specs.Unfolding.{Model}
use Rattle.mq_change_laws.specs.SettledLaws.{ReadsLooks, SameAt, assigned_value, settled}

-- what a step reads, of every rule and target: the contract of `steps_read_their_looks`
abbrev pub StepsRead : Type 0
StepsRead = (model : Model) (shape : PartShape) (turn : ℕ) (rule : Rule) (target : Tuple) → StepReadsItsLooks model shape turn rule target

-- The slot of a measure that a rule assigns, where it is levelled in some round, is what the rule makes of the slots.
abbrev pub SlotIsStep : Model → PartShape → Cells → ℕ → CellName → Rule → Type 0
SlotIsStep model shape input n c rule =
    assigning_rule model shape (Measure c) ≡ Some rule → levelled (node_looks model shape) n (Measure c) ≡ true
    → slots_in model shape input c ≡ cell_slot model shape 0 rule c.key (slots_in model shape input)

pub agree_from : (f g : Look → Slot) (looks : List Look) → SameAt f g looks → AgreeAt (λ c. f (Measure c)) (λ c. g (Measure c)) looks
agree_from f g [] h = tt
agree_from f g (Measure c ∷ looks) h = (h.0, agree_from f g looks h.1)
agree_from f g (Presence key ∷ looks) h = agree_from f g looks h.1

module _ (model : Model) (shape : PartShape) where
  -- the slot of a node by the rule that assigns it, and its looks
  abbrev pub stepped : Look → (Look → Slot) → Option Rule → Slot
  stepped t f o = option_map_or (λ rule. cell_slot model shape 0 rule (cell_of t) (λ c. f (Measure c))) o Poisoned

  abbrev pub looked : Look → Option Rule → Option (List Look)
  looked t o = option_map (λ rule. looks_of (site_in model shape 0 (cell_of t)) rule.right) o

  pub looks_is : (t : Look) (looks : List Look) (rule : Rule) → looked t (Some rule) ≡ Some looks
      → looks_of (site_in model shape 0 (cell_of t)) rule.right ≡ looks
  looks_is t looks rule h = ap (λ o. unwrap_or o []) h

  -- what nothing assigns is levelled in every round
  pub unassigned_levelled : (n : ℕ) (t : Look) → node_looks model shape t ≡ None → levelled (node_looks model shape) n t ≡ true
  unassigned_levelled zero t h = rw h refl
  unassigned_levelled (suc n) t h = rw h refl

  module _ (law : StepsRead) (input : Cells) where
    reads_by : (t : Look) (looks : List Look) (o : Option Rule) → looked t o ≡ Some looks → (f g : Look → Slot) → SameAt f g looks
        → stepped t f o ≡ stepped t g o
    reads_by t looks None h f g same = refl
    reads_by t looks (Some rule) h f g same =
        law model shape 0 rule (cell_of t) (λ c. f (Measure c)) (λ c. g (Measure c))
        (subst (AgreeAt (λ c. f (Measure c)) (λ c. g (Measure c))) (sym (looks_is t looks rule h)) (agree_from f g looks same))

    pub reads_looks : ReadsLooks (system_of model shape input)
    reads_looks t looks h f g same = reads_by t looks (assigning_rule model shape t) h f g same

    pub slot_is_step : (n : ℕ) (c : CellName) (rule : Rule) → SlotIsStep model shape input n c rule
    slot_is_step n c rule e h =
        let s = system_of model shape input in
        let count = round_count shape in
        let t : Look = Measure c in
        let looks : List Look = looks_of (site_in model shape 0 c.key) rule.right in
        let enough : levelled (node_looks model shape) count t ≡ true = enough_rounds model shape n t h in
        let more : levelled (node_looks model shape) (suc count) t ≡ true =
        levelled_stays (node_looks model shape) count (suc count) (omega arith) t enough in
        settled s reads_looks count (suc count) t enough more ∙ assigned_value s count t looks (ap (looked t) e)
        ∙ ap (stepped t (value s count)) e
