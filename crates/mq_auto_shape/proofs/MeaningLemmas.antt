-- The walk that keeps assignments in order gives the shape that is put in order in the end.
use Rattle.std.proofs.Common.{◌≡◌, ℕ, List, [], ◌∷◌, ◌++◌, length, Bool, true, false, ◌||◌, map, Option, Some, None, Result, Ok, Err, if◌then◌else◌, refl, sym, ap, ◌∙◌}
use Rattle.std.specs.List.{enumerate_from, filter, list_any}
use Rattle.std.specs.Option.{option_map_or}
use Rattle.std.specs.Ordering.{is_gt}
use Rattle.std.specs.declared.cmp.Ordering.{Ordering}
use Rattle.mq_values.specs.Order.{cmp_key}
use Rattle.mq_ir.specs.declared.query.PartShape.{PartShape}
use Rattle.mq_ir.specs.declared.query.Rule.{Rule}
use Rattle.mq_ir.specs.declared.query.SingleLeft.{SingleLeft}
use Rattle.mq_ir.specs.Keys.{Tuple}
use Rattle.mq_ir.specs.Partitions.{ascending, placed}
use Rattle.mq_ir.specs.Placed.{Placed}
use Rattle.mq_ir.specs.Results.{◌>>=◌, each_in_turn}
use Rattle.mq_ir.specs.Shape.{Assignment, Growing, assigns, cmp_assignment, least_of, shape_fault, shape_over, shape_rule, shape_step}
use Rattle.mq_ir.specs.Targets.{Targets, targets}
use Rattle.mq_ir.specs.Unfolding.{Model}
use Rattle.mq_unfold.specs.SingleLefts.{lefts_of}
use Rattle.mq_auto_shape.specs.Walk.{assigned_by, fault_in, left_grown, placed_all, rule_grown, rules_grown}

placed_before : {K : Type 0} (cmp : K → K → Ordering) (xs ys : List K) → ascending cmp (xs ++ ys) ≡ placed_all cmp xs (ascending cmp ys)
placed_before cmp [] ys = refl
placed_before cmp (x ∷ xs) ys = ap (placed cmp x) (placed_before cmp xs ys)

either : (a b c : Bool) → (a || (b || c)) ≡ (b || (a || c))
either true true c = refl
either true false c = refl
either false true c = refl
either false false c = refl

pub any_placed : {K : Type 0} (cmp : K → K → Ordering) (p : K → Bool) (x : K) (ys : List K) → list_any p (placed cmp x ys) ≡ (p x || list_any p ys)
any_placed cmp p x [] = refl
any_placed cmp p x (y ∷ ys) = by (is_gt (cmp x y)) (any_placed cmp p x ys)
  where
    by : (b : Bool) → list_any p (placed cmp x ys) ≡ (p x || list_any p ys) → list_any p (if b then y ∷ placed cmp x ys else x ∷ y ∷ ys) ≡ (p x || (p y || list_any p ys))
    by true h = ap (λ c. p y || c) h ∙ either (p y) (p x) (list_any p ys)
    by false h = refl

pub any_ascending : {K : Type 0} (cmp : K → K → Ordering) (p : K → Bool) (xs : List K) → list_any p (ascending cmp xs) ≡ list_any p xs
any_ascending cmp p [] = refl
any_ascending cmp p (x ∷ xs) = any_placed cmp p x (ascending cmp xs) ∙ ap (λ c. p x || c) (any_ascending cmp p xs)

-- the assignments so far, ascending
abbrev sorted : Growing → Growing
sorted g = record { set = g.set; assigned = ascending cmp_assignment g.assigned }

abbrev in_order : Result Growing Placed → Result Growing Placed
in_order r = r >>= (λ g. Ok (sorted g))

module _ (number : ℕ) (rule : Rule) (left : SingleLeft) (g : Growing) where
  abbrev found : Targets
  found = targets left rule.mode g.set

  abbrev set : List Tuple
  set = ascending cmp_key (found.created ++ g.set)

  abbrev made : List Assignment
  made = map (assigned_by rule.measure number) found.cells

  abbrev grown : List Assignment → Growing
  grown assigned = record { set = set; assigned = assigned }

  faults : shape_fault number rule.measure (ascending cmp_assignment g.assigned) found.cells set ≡ shape_fault number rule.measure g.assigned found.cells set
  faults = λ i. fault_in number (least_of cmp_key (filter (λ key. any_ascending cmp_assignment (assigns rule.measure key) g.assigned i) found.cells)) (length set)

  by_fault : (o : Option Placed) → option_map_or Err o (Ok (grown (placed_all cmp_assignment made (ascending cmp_assignment g.assigned)))) ≡ in_order (option_map_or Err o (Ok (grown (made ++ g.assigned))))
  by_fault (Some fault) = refl
  by_fault None = ap (λ a. Ok (grown a)) (sym (placed_before cmp_assignment made g.assigned))

  left_same : left_grown number rule left (sorted g) ≡ in_order (shape_step number rule left g)
  left_same =
      ap (λ o. option_map_or Err o (Ok (grown (placed_all cmp_assignment made (ascending cmp_assignment g.assigned))))) faults
      ∙ by_fault (shape_fault number rule.measure g.assigned found.cells set)

turns_same : {A S E : Type 0} (f g : A → S → Result S E) (h : S → S) → ((x : A) (s : S) → f x (h s) ≡ (g x s >>= (λ t. Ok (h t))))
    → (xs : List A) (s : S) → each_in_turn f xs (h s) ≡ (each_in_turn g xs s >>= (λ t. Ok (h t)))
turns_same f g h same [] s = refl
turns_same {A} {S} {E} f g h same (x ∷ xs) s = ap (λ r. r >>= each_in_turn f xs) (same x s) ∙ by (g x s) (λ t. turns_same f g h same xs t)
  where
    by : (r : Result S E) → ((t : S) → each_in_turn f xs (h t) ≡ (each_in_turn g xs t >>= (λ u. Ok (h u))))
        → ((r >>= (λ t. Ok (h t))) >>= each_in_turn f xs) ≡ ((r >>= each_in_turn g xs) >>= (λ t. Ok (h t)))
    by (Ok t) rest = rest t
    by (Err e) rest = refl

rule_same : (model : Model) (x : ℕ × Rule) (g : Growing) → rule_grown model x (sorted g) ≡ in_order (shape_rule model x g)
rule_same model (number, rule) g = by (lefts_of model 0 number rule)
  where
    by : (r : Result (List SingleLeft) Placed) → (r >>= (λ lefts. each_in_turn (left_grown number rule) lefts (sorted g))) ≡ in_order (r >>= (λ lefts. each_in_turn (shape_step number rule) lefts g))
    by (Ok lefts) = turns_same (left_grown number rule) (shape_step number rule) sorted (left_same number rule) lefts g
    by (Err e) = refl

-- the walk begins with these cells
abbrev pub begun : List Tuple → Growing
begun keys = record { set = keys; assigned = [] }

-- the shape that has grown from them
abbrev pub shape_from : List Tuple → Growing → PartShape
shape_from keys g = record { base = keys; cells = g.set; assigned = g.assigned }

module _ (model : Model) (keys : List Tuple) where
  rules_same : rules_grown model (begun keys) ≡ in_order (each_in_turn (shape_rule model) (enumerate_from 1 model.part.rules) (begun keys))
  rules_same = turns_same (rule_grown model) (shape_rule model) sorted (rule_same model) (enumerate_from 1 model.part.rules) (begun keys)

  pub shape_is : (g : Growing) → rules_grown model (begun keys) ≡ Ok g → shape_over model keys ≡ Ok (shape_from keys g)
  shape_is g h = by (each_in_turn (shape_rule model) (enumerate_from 1 model.part.rules) (begun keys)) (sym rules_same ∙ h)
    where
      by : (r : Result Growing Placed) → in_order r ≡ Ok g → (r >>= (λ t. Ok (shape_from keys (sorted t)))) ≡ Ok (shape_from keys g)
      by (Ok t) e = let is : sorted t ≡ g = cc in ap (λ (x : Growing). Ok (shape_from keys x)) is
      by (Err f) e = absurd (cc)

  pub shape_fails : (fault : Placed) → rules_grown model (begun keys) ≡ Err fault → shape_over model keys ≡ Err fault
  shape_fails fault h = by (each_in_turn (shape_rule model) (enumerate_from 1 model.part.rules) (begun keys)) (sym rules_same ∙ h)
    where
      by : (r : Result Growing Placed) → in_order r ≡ Err fault → (r >>= (λ t. Ok (shape_from keys (sorted t)))) ≡ Err fault
      by (Ok t) e = absurd (cc)
      by (Err f) e = let is : f ≡ fault = cc in ap Err is
