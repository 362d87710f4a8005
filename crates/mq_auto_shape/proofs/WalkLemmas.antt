-- What the walk over the rules keeps: each assignment is by a rule of the model, its cell is there, and cells have a value for each place.
use Rattle.std.proofs.Common.{◌≡◌, ℕ, ◌+◌, ◌-◌, ◌<◌, Bool, true, false, not, ◌||◌, cond, List, [], ◌∷◌, ◌++◌, length, map, Option, Some, None, IsSome, Result, Ok, Err, slice_get, refl, sym, ap, subst, arith, ◌∙◌}
use Rattle.std.specs.List.{All, enumerate_from, filter}
use Rattle.std.specs.Option.{option_map_or}
use Rattle.std.specs.Ordering.{is_eq}
use Rattle.std.specs.declared.cmp.Ordering.{Ordering}
use Rattle.std.proofs.lemmas.List.Folds.{list_any-append}
use Rattle.std.specs.Prelude.{IfOk}
use Rattle.mq_values.specs.Answers.{Gives}
use Rattle.mq_values.specs.declared.memory.Fail.{Fail}
use Rattle.mq_values.specs.Order.{cmp_key}
use Rattle.mq_values.specs.OrderTells.{key_itself}
use Rattle.mq_ir.specs.declared.query.Rule.{Rule}
use Rattle.mq_ir.specs.declared.query.SingleLeft.{SingleLeft}
use Rattle.mq_ir.specs.CreatedLaws.{created_long}
use Rattle.mq_ir.specs.EachLaws.{Each, all_of, each_append, each_ascending, each_in, each_placed}
use Rattle.mq_ir.specs.Keys.{Tuple, is_among, is_same}
use Rattle.mq_ir.specs.Partitions.{ascending}
use Rattle.mq_ir.specs.Placed.{Placed}
use Rattle.mq_ir.specs.Ready.{HaveLength, HavePlaces}
use Rattle.mq_ir.specs.Results.{◌>>=◌, each_in_turn}
use Rattle.mq_ir.specs.Shape.{Assignment, Growing, cmp_assignment, shape_fault}
use Rattle.mq_ir.specs.Targets.{Targets, targets}
use Rattle.mq_ir.specs.Unfolding.{Model}
use Rattle.mq_unfold.specs.SingleLefts.{lefts_of}
use Rattle.mq_auto_shape.specs.Found.{AreThere, IsRuled}
use Rattle.mq_auto_shape.specs.Walk.{assigned_by, left_grown, placed_all, rule_grown, rules_grown}
use Rattle.mq_auto_shape.proofs.EdgeLemmas.{there}
use Rattle.mq_auto_shape.proofs.MeaningLemmas.{any_ascending, begun}

-- a fact that each step keeps holds in the end
turns_keep : {A S E : Type 0} (R : A → Type 0) (P : S → Type 0) (f : A → S → Result S E) → ((x : A) (s t : S) → R x → f x s ≡ Ok t → P s → P t)
    → (xs : List A) → Each R xs → (s t : S) → each_in_turn f xs s ≡ Ok t → P s → P t
turns_keep R P f step [] r s t e p = let same : s ≡ t = cc in subst P same p
turns_keep {A} {S} {E} R P f step (x ∷ xs) r s t e p = by (f x s) refl e (λ u g h. turns_keep R P f step xs r.1 u t h (step x s u r.0 g p))
  where
    by : (o : Result S E) → f x s ≡ o → (o >>= each_in_turn f xs) ≡ Ok t → ((u : S) → f x s ≡ Ok u → each_in_turn f xs u ≡ Ok t → P t) → P t
    by (Ok u) g h rest = rest u g h
    by (Err fault) g h rest = cc

each_placed_all : {K : Type 0} (P : K → Type 0) (cmp : K → K → Ordering) (xs ys : List K) → Each P xs → Each P ys → Each P (placed_all cmp xs ys)
each_placed_all P cmp [] ys a b = b
each_placed_all P cmp (x ∷ xs) ys a b = each_placed P cmp x (placed_all cmp xs ys) a.0 (each_placed_all P cmp xs ys a.1 b)

each_weaker : {K : Type 0} (P Q : K → Type 0) → ((x : K) → P x → Q x) → (xs : List K) → Each P xs → Each Q xs
each_weaker P Q w [] a = tt
each_weaker P Q w (x ∷ xs) a = (w x a.0, each_weaker P Q w xs a.1)

-- ---- one single left side
module _ (number : ℕ) (rule : Rule) (left : SingleLeft) (g : Growing) where
  abbrev found : Targets
  found = targets left rule.mode g.set

  abbrev set : List Tuple
  set = ascending cmp_key (found.created ++ g.set)

  abbrev made : List Assignment
  made = placed_all cmp_assignment (map (assigned_by rule.measure number) found.cells) g.assigned

  -- what has grown, where nothing faulted
  grown_is : (h : Growing) → left_grown number rule left g ≡ Ok h → record { set = set; assigned = made } ≡ h
  grown_is h e = by (shape_fault number rule.measure g.assigned found.cells set) e
    where
      by : (o : Option Placed) → option_map_or Err o (Ok (record { set = set; assigned = made })) ≡ Ok h → record { set = set; assigned = made } ≡ h
      by None f = cc
      by (Some fault) f = cc

  pub left_wide : (n : ℕ) (h : Growing) → length left.places ≡ n → left_grown number rule left g ≡ Ok h → HaveLength n g.set → HaveLength n h.set
  left_wide n h w e a =
      subst (λ (it : Growing). HaveLength n it.set) (grown_is h e)
      (all_of (λ key. length key ≡ n) set
      (each_ascending (λ key. length key ≡ n) cmp_key (found.created ++ g.set)
      (each_append (λ key. length key ≡ n) found.created g.set (each_in (λ key. length key ≡ n) found.created (created_long left n w rule.mode g.set a)) (each_in (λ key. length key ≡ n) g.set a))))

  made_by : (P : Assignment → Type 0) → ((key : Tuple) → P (assigned_by rule.measure number key)) → (cells : List Tuple) → Each P (map (assigned_by rule.measure number) cells)
  made_by P p [] = tt
  made_by P p (key ∷ cells) = (p key, made_by P p cells)

  abbrev IsIn : List Tuple → Assignment → Type 0
  IsIn keys a = is_among keys a.0 ≡ true

  among_both : (keys : List Tuple) (key : Tuple) → (is_among found.created key || is_among g.set key) ≡ true → is_among set key ≡ true
  among_both keys key h = any_ascending cmp_key (is_same key) (found.created ++ g.set) ∙ list_any-append (is_same key) found.created g.set ∙ h

  later : (a b : Bool) → b ≡ true → (a || b) ≡ true
  later true b h = refl
  later false b h = h

  -- it is created among these, or there
  abbrev IsReached : List Tuple → Tuple → Type 0
  IsReached cells key = (is_among (filter (λ k. not (is_among g.set k)) cells) key || is_among g.set key) ≡ true

  reached_first : (x : Tuple) (xs : List Tuple) → IsReached (x ∷ xs) x
  reached_first x xs = first (is_among g.set x) refl
    where
      first : (b : Bool) → is_among g.set x ≡ b → (is_among (cond (not b) (x ∷ filter (λ k. not (is_among g.set k)) xs) (filter (λ k. not (is_among g.set k)) xs)) x || is_among g.set x) ≡ true
      first true e = later (is_among (filter (λ k. not (is_among g.set k)) xs) x) (is_among g.set x) e
      first false e = ap (λ b. (b || is_among (filter (λ k. not (is_among g.set k)) xs) x) || is_among g.set x) (ap is_eq (key_itself x))

  reached_more : (x : Tuple) (xs : List Tuple) (key : Tuple) → IsReached xs key → IsReached (x ∷ xs) key
  reached_more x xs key h = by (is_among g.set x)
    where
      pick : (b : Bool) → ((b || is_among (filter (λ k. not (is_among g.set k)) xs) key) || is_among g.set key) ≡ true
      pick true = refl
      pick false = h

      by : (b : Bool) → (is_among (cond (not b) (x ∷ filter (λ k. not (is_among g.set k)) xs) (filter (λ k. not (is_among g.set k)) xs)) key || is_among g.set key) ≡ true
      by true = h
      by false = pick (is_same key x)

  -- each target is
  made_there : (cells : List Tuple) → Each (IsReached cells) cells
  made_there [] = tt
  made_there (x ∷ xs) = (reached_first x xs, each_weaker (IsReached xs) (IsReached (x ∷ xs)) (reached_more x xs) xs (made_there xs))

  mapped_there : (cells : List Tuple) → Each (λ key. is_among set key ≡ true) cells → Each (IsIn set) (map (assigned_by rule.measure number) cells)
  mapped_there [] a = tt
  mapped_there (key ∷ cells) a = (a.0, mapped_there cells a.1)

  left_keeps : (model : Model) (h : Growing) → IsRuled model (assigned_by rule.measure number []) → left_grown number rule left g ≡ Ok h
      → Each (IsRuled model) g.assigned × Each (IsIn g.set) g.assigned → Each (IsRuled model) h.assigned × Each (IsIn h.set) h.assigned
  left_keeps model h ruled e both =
      subst (λ (it : Growing). Each (IsRuled model) it.assigned × Each (IsIn it.set) it.assigned) (grown_is h e) (
        each_placed_all (IsRuled model) cmp_assignment (map (assigned_by rule.measure number) found.cells) g.assigned (made_by (IsRuled model) (λ key. ruled) found.cells) both.0,
        each_placed_all (IsIn set) cmp_assignment (map (assigned_by rule.measure number) found.cells) g.assigned
            (mapped_there found.cells (each_weaker (IsReached found.cells) (λ key. is_among set key ≡ true) (λ key i. among_both set key i) found.cells (made_there found.cells)))
            (each_weaker (IsIn g.set) (IsIn set) (λ a i. among_both set a.0 (later (is_among found.created a.0) (is_among g.set a.0) i)) g.assigned both.1),
      )

-- ---- one rule
pub lefts_wide : (number : ℕ) (rule : Rule) (n : ℕ) (lefts : List SingleLeft) (g h : Growing) → HavePlaces n lefts → each_in_turn (left_grown number rule) lefts g ≡ Ok h → HaveLength n g.set → HaveLength n h.set
lefts_wide number rule n lefts g h p e a =
    turns_keep (λ (left : SingleLeft). length left.places ≡ n) (λ (it : Growing). HaveLength n it.set) (left_grown number rule)
    (λ left s t w f b. left_wide number rule left s n t w f b) lefts (each_in (λ (left : SingleLeft). length left.places ≡ n) lefts p) g h e a

-- the same of what a call gives
pub gives_wide : (number : ℕ) (rule : Rule) (n : ℕ) (lefts : List SingleLeft) (g : Growing) (result : Result Growing (Fail Placed)) → HavePlaces n lefts → HaveLength n g.set
    → Gives result (each_in_turn (left_grown number rule) lefts g) → IfOk result (λ (h : Growing). HaveLength n h.set)
gives_wide number rule n lefts g (Ok h) p a e = lefts_wide number rule n lefts g h p e a
gives_wide number rule n lefts g (Err e) p a given = tt

abbrev Kept : Model → Growing → Type 0
Kept model g = Each (IsRuled model) g.assigned × Each (λ a. is_among g.set a.0 ≡ true) g.assigned

abbrev HasRule : Model → ℕ × Rule → Type 0
HasRule model e = (0 < e.0) × IsSome (slice_get model.part.rules (e.0 - 1))

any_left : (lefts : List SingleLeft) → Each (λ (left : SingleLeft). Unit {0}) lefts
any_left [] = tt
any_left (left ∷ lefts) = (tt, any_left lefts)

rule_keeps : (model : Model) (x : ℕ × Rule) (g h : Growing) → HasRule model x → rule_grown model x g ≡ Ok h → Kept model g → Kept model h
rule_keeps model (number, rule) g h ruled e kept = by (lefts_of model 0 number rule) e
  where
    by : (r : Result (List SingleLeft) Placed) → (r >>= (λ lefts. each_in_turn (left_grown number rule) lefts g)) ≡ Ok h → Kept model h
    by (Ok lefts) f =
        turns_keep (λ (left : SingleLeft). Unit {0}) (Kept model) (left_grown number rule) (λ left s t w i k. left_keeps number rule left s model t ruled i k) lefts (any_left lefts) g h f kept
    by (Err fault) f = cc

-- ---- all rules
numbered : (model : Model) (xs : List Rule) (n : ℕ) → ((k : ℕ) → k < length xs → IsSome (slice_get model.part.rules (n + k))) → Each (HasRule model) (enumerate_from (n + 1) xs)
numbered model [] n h = tt
numbered model (x ∷ xs) n h =
    let at : n + 0 ≡ n + 1 - 1 = omega arith in (
      (omega arith, subst (λ (k : ℕ). IsSome (slice_get model.part.rules k)) at (h 0 (omega arith))),
      numbered model xs (n + 1) (λ k lt. let e : n + (k + 1) ≡ n + 1 + k = omega arith in subst (λ (j : ℕ). IsSome (slice_get model.part.rules j)) e (h (k + 1) (omega (arith, lt)))),
    )

pub walk_keeps : (model : Model) (keys : List Tuple) (g : Growing) → rules_grown model (begun keys) ≡ Ok g → All (IsRuled model) g.assigned × AreThere g.set g.assigned
walk_keeps model keys g e =
    let kept : Kept model g = turns_keep (HasRule model) (Kept model) (rule_grown model) (rule_keeps model) (enumerate_from 1 model.part.rules)
    (numbered model model.part.rules 0 (λ k lt. ruled k lt)) (begun keys) g e (tt, tt) in
    (all_of (IsRuled model) g.assigned kept.0, all_of (λ a. is_among g.set a.0 ≡ true) g.assigned kept.1)
  where
    ruled : (k : ℕ) → k < length model.part.rules → IsSome (slice_get model.part.rules (0 + k))
    ruled k lt =
        let t = there model.part.rules k lt in
        let z : k ≡ 0 + k = omega arith in
        let some : IsSome (Some t.item) = refl in
        subst (λ (j : ℕ). IsSome (slice_get model.part.rules j)) z (subst IsSome (sym t.is) some)
