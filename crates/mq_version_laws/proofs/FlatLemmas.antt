-- A turn of the rules as the single left sides of all rules, one after another.
use Rattle.std.proofs.Common.{◌≡◌, ℕ, ◌+◌, List, [], ◌∷◌, ◌++◌, map, Result, Ok, Err, refl, sym, ap, ◌∙◌}
use Rattle.std.specs.List.{enumerate_from, flat_map}
use Rattle.mq_values.specs.declared.faults.FaultKind.{FaultKind}
use Rattle.mq_ir.specs.declared.query.Rule.{Rule}
use Rattle.mq_ir.specs.declared.query.SingleLeft.{SingleLeft}
use Rattle.mq_ir.specs.Keys.{Tuple}
use Rattle.mq_ir.specs.Placed.{Placed, placed_fault}
use Rattle.mq_ir.specs.Results.{◌>>=◌, each_in_turn, marked}
use Rattle.mq_ir.specs.Sequential.{Act, Standing, left_step, rule_step, turn_step}
use Rattle.mq_ir.specs.Unfolding.{Model, unfold_rule}
use Rattle.mq_ir.specs.Versions.{LeftAt, all_lefts, left_at, lefts_of_rule, lefts_or_fault}

-- a step, then another, then a third
pub bound_twice : {A B C E : Type 0} (r : Result A E) (f : A → Result B E) (g : B → Result C E)
    → ((r >>= f) >>= g) ≡ (r >>= (λ x. f x >>= g))
bound_twice (Ok x) f g = refl
bound_twice (Err e) f g = refl

module _ {A S E : Type 0} (step : A → S → Result S E) where
  turn_append : (xs ys : List A) (s : S) → each_in_turn step (xs ++ ys) s ≡ (each_in_turn step xs s >>= each_in_turn step ys)
  turn_append [] ys s = refl
  turn_append (x ∷ xs) ys s =
      ap (λ f. step x s >>= f) (λ i u. turn_append xs ys u i) ∙ sym (bound_twice (step x s) (each_in_turn step xs) (each_in_turn step ys))

  turn_flat : {B : Type 0} (f : B → List A) (bs : List B) (s : S)
      → each_in_turn step (flat_map f bs) s ≡ each_in_turn (λ b u. each_in_turn step (f b) u) bs s
  turn_flat f [] s = refl
  turn_flat f (b ∷ bs) s = turn_append (f b) (flat_map f bs) s ∙ ap (λ g. each_in_turn step (f b) s >>= g) (λ i u. turn_flat f bs u i)

-- a rule at work in the first turn, over the keys of the input
abbrev pub act_over : Model → List Tuple → ℕ → Rule → Act
act_over model keys number rule = record { model = model; input = keys; number = number; rule = rule; turn = 0 }

-- a single left side, or the fault of unfolding in its place
abbrev pub acted : Model → List Tuple → Result LeftAt Placed → Standing → Result Standing Placed
acted model keys (Ok at) s = left_step (act_over model keys at.number at.rule) at.left s
acted model keys (Err fault) s = Err fault

module _ (model : Model) (keys : List Tuple) where
  lefts_run : (number : ℕ) (rule : Rule) (n : ℕ) (lefts : List SingleLeft) (s : Standing)
      → each_in_turn (acted model keys) (map (left_at number rule) (enumerate_from n lefts)) s
      ≡ each_in_turn (left_step (act_over model keys number rule)) lefts s
  lefts_run number rule n [] s = refl
  lefts_run number rule n (l ∷ ls) s = ap (λ f. left_step (act_over model keys number rule) l s >>= f) (λ i u. lefts_run number rule (n + 1) ls u i)

  rule_run : (x : ℕ × Rule) (s : Standing) → each_in_turn (acted model keys) (lefts_of_rule model x) s ≡ rule_step model keys 0 x s
  rule_run (number, rule) s = by (unfold_rule model rule 0)
    where
      by : (r : Result (List SingleLeft) FaultKind) → each_in_turn (acted model keys) (lefts_or_fault number rule r) s
          ≡ (marked (placed_fault number []) r >>= (λ lefts. each_in_turn (left_step (act_over model keys number rule)) lefts s))
      by (Ok lefts) = lefts_run number rule 0 lefts s
      by (Err kind) = refl

  -- the first turn
  pub turn_run : (s : Standing) → turn_step model keys 0 s ≡ each_in_turn (acted model keys) (all_lefts model) s
  turn_run s =
      sym
      (turn_flat (acted model keys) (lefts_of_rule model) (enumerate_from 1 model.part.rules) s
      ∙ ap (λ f. each_in_turn f (enumerate_from 1 model.part.rules) s) (λ i x u. rule_run x u i))
