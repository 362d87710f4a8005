-- In a shape that the rules make, each assignment is by a rule of the model.
use Rattle.std.proofs.Common.{◌≡◌, ℕ, zero, suc, ◌+◌, ◌-◌, ◌<◌, ◌≤◌, List, [], ◌∷◌, ◌++◌, length, map, Option, Some, None, IsSome, slice_get, Result, Ok, Err, refl, ap, subst, ◌∙◌, arith}
use Rattle.std.specs.List.{enumerate_from, find}
use Rattle.std.specs.Map.{keys_of}
use Rattle.std.specs.Option.{option_and_then, option_map, option_map_or}
use Rattle.mq_values.specs.Order.{cmp_key}
use Rattle.mq_ir.specs.declared.query.CellName.{CellName}
use Rattle.mq_ir.specs.declared.query.Look.TheVariants.{Measure}
use Rattle.mq_ir.specs.declared.query.PartInput.{PartInput}
use Rattle.mq_ir.specs.declared.query.PartShape.{PartShape}
use Rattle.mq_ir.specs.declared.query.Rule.{Rule}
use Rattle.mq_ir.specs.declared.query.SingleLeft.{SingleLeft}
use Rattle.mq_ir.specs.Automatic.{assigning_rule, cycle_in, levelled_shape, rule_at, shape_found}
use Rattle.mq_ir.specs.EachLaws.{Each, each_append, each_ascending, each_of}
use Rattle.mq_ir.specs.Iteration.{input_fault}
use Rattle.mq_ir.specs.Keys.{Tuple}
use Rattle.mq_ir.specs.Partitions.{ascending}
use Rattle.mq_ir.specs.Placed.{Placed, placed_fault}
use Rattle.mq_ir.specs.Results.{◌>>=◌, each_in_turn, marked}
use Rattle.mq_ir.specs.Shape.{Assignment, Growing, assigns, cmp_assignment, shape_fault, shape_over, shape_rule, shape_step}
use Rattle.mq_ir.specs.Targets.{Targets, targets}
use Rattle.mq_ir.specs.Unfolding.{Model, unfold_rule}
use Rattle.mq_change_laws.specs.SoundLaws.{found_has}

each_everywhere : {X : Type 0} (P : X → Type 0) → ((x : X) → P x) → (xs : List X) → Each P xs
each_everywhere P h [] = tt
each_everywhere P h (x ∷ xs) = (h x, each_everywhere P h xs)

in_list : {X : Type 0} (xs : List X) (n : ℕ) → n < length xs → IsSome (slice_get xs n)
in_list [] n h = absurd (omega (arith, h))
in_list (x ∷ xs) zero h = refl
in_list (x ∷ xs) (suc n) h = in_list xs n (omega (arith, h))

some_is : {X : Type 0} (o : Option X) → IsSome o → (x : X) × (o ≡ Some x)
some_is None h = cc
some_is (Some x) h = (x, refl)

module _ (model : Model) where
  -- rules are numbered from 1
  abbrev IsNumber : ℕ → Type 0
  IsNumber number = IsSome (slice_get model.part.rules (number - 1))

  abbrev pub AreRuled : List Assignment → Type 0
  AreRuled = Each (λ a. IsNumber a.2)

  -- a step that leaves assignments by rules of the model, where it found such
  abbrev Keeps : {A : Type 0} → (A → Growing → Result Growing Placed) → A → Type 0
  Keeps f x = (g after : Growing) → f x g ≡ Ok after → AreRuled g.assigned → AreRuled after.assigned

  turns_keep : {A : Type 0} (f : A → Growing → Result Growing Placed) (xs : List A) → Each (Keeps f) xs
      → (g after : Growing) → each_in_turn f xs g ≡ Ok after → AreRuled g.assigned → AreRuled after.assigned
  turns_keep f [] k g after h a = let is : g ≡ after = cc in subst (λ (x : Growing). AreRuled x.assigned) is a
  turns_keep f (x ∷ xs) k g after h a = by (f x g) refl h (turns_keep f xs k.1)
    where
      by : (r : Result Growing Placed) → f x g ≡ r → (r >>= each_in_turn f xs) ≡ Ok after
          → ((u v : Growing) → each_in_turn f xs u ≡ Ok v → AreRuled u.assigned → AreRuled v.assigned) → AreRuled after.assigned
      by (Ok u) e h rest = rest u after h (k.0 g u e a)
      by (Err fault) e h rest = cc

  module _ (number : ℕ) (rule : Rule) (is : IsNumber number) where
    abbrev made : Tuple → Assignment
    made key = (key, rule.measure, number)

    left_keeps : (left : SingleLeft) → Keeps (shape_step number rule) left
    left_keeps left g after h a = by (shape_fault number rule.measure g.assigned found.cells set) h
      where
        found : Targets
        found = targets left rule.mode g.set

        set : List Tuple
        set = ascending cmp_key (found.created ++ g.set)

        next : Growing
        next = record { set = set; assigned = map made found.cells ++ g.assigned }

        by : (o : Option Placed) → option_map_or Err o (Ok next) ≡ Ok after → AreRuled after.assigned
        by None h =
            let same : next ≡ after = cc in
            subst (λ (x : Growing). AreRuled x.assigned) same
            (each_append (λ a. IsNumber a.2) (map made found.cells) g.assigned
            (each_of (λ (a : Assignment). IsNumber a.2) made (λ key. is) found.cells) a)
        by (Some fault) h = cc

  rule_keeps : (x : ℕ × Rule) → IsNumber x.0 → Keeps (shape_rule model) x
  rule_keeps (number, rule) is g after h a = by (marked (placed_fault number []) (unfold_rule model rule 0)) h
    where
      by : (r : Result (List SingleLeft) Placed) → (r >>= (λ lefts. each_in_turn (shape_step number rule) lefts g)) ≡ Ok after
          → AreRuled after.assigned
      by (Ok lefts) h =
          turns_keep (shape_step number rule) lefts (each_everywhere (Keeps (shape_step number rule)) (left_keeps number rule is) lefts)
          g after h a
      by (Err fault) h = cc

  rules_keep : (rest : List Rule) (n : ℕ) → 0 < n → n + length rest ≤ length model.part.rules + 1
      → Each (Keeps (shape_rule model)) (enumerate_from n rest)
  rules_keep [] n p h = tt
  rules_keep (x ∷ xs) n p h =
      (rule_keeps (n, x) (in_list model.part.rules (n - 1) (omega (arith, p, h))), rules_keep xs (n + 1) (omega arith) (omega (arith, h)))

  pub shape_ruled : (keys : List Tuple) (shape : PartShape) → shape_over model keys ≡ Ok shape → AreRuled shape.assigned
  shape_ruled keys shape h = by (each_in_turn (shape_rule model) (enumerate_from 1 model.part.rules) begun) refl h
    where
      begun : Growing
      begun = record { set = keys; assigned = [] }

      made_of : Growing → PartShape
      made_of g = record { base = keys; cells = g.set; assigned = ascending cmp_assignment g.assigned }

      by : (r : Result Growing Placed) → each_in_turn (shape_rule model) (enumerate_from 1 model.part.rules) begun ≡ r
          → (r >>= (λ g. Ok (made_of g))) ≡ Ok shape → AreRuled shape.assigned
      by (Ok g) e h =
          let same : made_of g ≡ shape = cc in
          subst (λ (s : PartShape). AreRuled s.assigned) same
          (each_ascending (λ (a : Assignment). IsNumber a.2) cmp_assignment g.assigned
          (turns_keep (shape_rule model) (enumerate_from 1 model.part.rules) (rules_keep model.part.rules 1 (omega arith) (omega arith))
          begun g e tt))
      by (Err fault) e h = cc

  -- so the rule of a measure is there
  pub rule_known : (shape : PartShape) → AreRuled shape.assigned → (c : CellName) (number : ℕ) → rule_at shape (Measure c) ≡ Some number
      → (rule : Rule) × (assigning_rule model shape (Measure c) ≡ Some rule)
  rule_known shape ruled c number h =
      let rule = some_is (slice_get model.part.rules (number - 1)) (by (find (assigns c.measure c.key) shape.assigned) refl h) in
      (rule.0, ap (option_and_then (λ number. slice_get model.part.rules (number - 1))) h ∙ rule.1)
    where
      by : (o : Option Assignment) → find (assigns c.measure c.key) shape.assigned ≡ o
          → option_map (λ a. a.2) o ≡ Some number → IsNumber number
      by None e h = cc
      by (Some a) e h =
          let same : a.2 ≡ number = cc in
          subst IsNumber same (found_has (λ (a : Assignment). IsNumber a.2) (assigns c.measure c.key) shape.assigned ruled a e).0

  -- a shape that is found is one that the rules make, without a cycle
  pub shape_made : (p : PartInput) (shape : PartShape) → shape_found model p ≡ Ok shape
      → (shape_over model (keys_of p.cells) ≡ Ok shape) × (cycle_in model shape ≡ None)
  shape_made p shape h = whole (input_fault p) h
    where
      kept : (s : PartShape) (o : Option Placed) → cycle_in model s ≡ o → option_map_or Err o (Ok s) ≡ Ok shape
          → (s ≡ shape) × (cycle_in model shape ≡ None)
      kept s None e h = let same : s ≡ shape = cc in (same, subst (λ x. cycle_in model x ≡ None) same e)
      kept s (Some fault) e h = cc

      made : (r : Result PartShape Placed) → shape_over model (keys_of p.cells) ≡ r
          → (r >>= (λ s. option_map_or Err (cycle_in model s) (Ok s))) ≡ Ok shape
          → (shape_over model (keys_of p.cells) ≡ Ok shape) × (cycle_in model shape ≡ None)
      made (Ok s) e h = let k = kept s (cycle_in model s) refl h in (e ∙ ap Ok k.0, k.1)
      made (Err fault) e h = cc

      whole : (o : Option Placed) → option_map_or Err o (levelled_shape model (keys_of p.cells)) ≡ Ok shape
          → (shape_over model (keys_of p.cells) ≡ Ok shape) × (cycle_in model shape ≡ None)
      whole None h = made (shape_over model (keys_of p.cells)) refl h
      whole (Some fault) h = cc
