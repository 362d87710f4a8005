-- What holds of a shape as it grows, left side by left side.
use Rattle.std.proofs.Common.{◌≡◌, Bool, true, false, not, ◌&&◌, ◌||◌, List, [], ◌∷◌, ◌++◌, cond, refl, sym, ap, subst, ◌∙◌, ℕ, zero, suc, ◌+◌, ◌-◌, ◌<◌, ◌≤◌, ◌==◌, length, map, Option, Some, None, IsSome, slice_get, Result, Ok, Err, arith}
use Rattle.std.specs.Prelude.{if◌then◌else◌}
use Rattle.std.specs.List.{filter, list_any, enumerate_from, find}
use Rattle.std.specs.List.Sorted.{IsStrictlySortedBy}
use Rattle.std.specs.Ordering.{is_gt}
use Rattle.std.proofs.lemmas.Bool.{or_parts, or_from, and_from, and_left, or_right, eqb-true, eq-eqb}
use Rattle.std.specs.Option.{option_map, option_map_or, option_or}
use Rattle.mq_values.specs.declared.faults.FaultKind.TheVariants as kind
use Rattle.mq_values.specs.Order.{cmp_key}
use Rattle.mq_ir.specs.EachLaws.{Each, all_of, each_append, each_ascending, each_mapped, each_of}
use Rattle.mq_ir.specs.Keys.{Tuple, is_among, is_same}
use Rattle.mq_ir.specs.Partitions.{ascending, placed}
use Rattle.mq_change_laws.specs.ReachLaws.{told_alike}
use Rattle.mq_ir.specs.declared.query.PartShape.{PartShape}
use Rattle.mq_ir.specs.declared.query.Rule.{Rule}
use Rattle.mq_ir.specs.declared.query.SingleLeft.{SingleLeft}
use Rattle.mq_ir.specs.Placed.{Placed, placed_fault}
use Rattle.mq_ir.specs.Results.{◌>>=◌, each_in_turn, marked}
use Rattle.mq_ir.specs.Shape.{Assignment, Growing, assigns, cmp_assignment, least_of, shape_over, shape_rule, shape_step}
use Rattle.mq_ir.specs.Targets.{Targets, targets}
use Rattle.mq_ir.specs.Unfolding.{Model, unfold_rule}
use Rattle.mq_change_laws.specs.CycleLaws.{least_none, none_kept}
use Rattle.mq_change_laws.specs.ShapeLaws.{IsSound, ShapeIsSound}
use Rattle.mq_change_laws.specs.KeyLaws.{same_itself, same_turned, any_append, any_placed, any_ascending, each_itself, each_map}
use Rattle.mq_change_laws.specs.OnceLaws.{Distinct, distinct_kept, distinct_append, targets_once, created_apart, there_or_created}
use Rattle.mq_change_laws.specs.AscentLaws.{strict_distinct, strict_ascending}

-- ---- assignments of which no measure of a cell is assigned twice
abbrev Once : List Assignment → Type 0
Once [] = Unit {0}
Once (a ∷ more) = (list_any (assigns a.1 a.0) more ≡ false) × Once more

abbrev made : ℕ → ℕ → Tuple → Assignment
made m number key = (key, m, number)

-- a key that is not among others is not assigned with them
unmade : (m number : ℕ) (key : Tuple) (keys : List Tuple) → is_among keys key ≡ false → list_any (assigns m key) (map (made m number) keys) ≡ false
unmade m number key [] h = refl
unmade m number key (x ∷ xs) h =
    let both = or_parts (is_same key x) (is_among xs key) h in
    or_from (is_same key x && (m == m)) (list_any (assigns m key) (map (made m number) xs)) (and_left (is_same key x) (m == m) both.0) (unmade m number key xs both.1)

made_once : (m number : ℕ) (keys : List Tuple) (assigned : List Assignment) → Distinct keys → Once assigned → Each (λ key. list_any (assigns m key) assigned ≡ false) keys
    → Once (map (made m number) keys ++ assigned)
made_once m number [] assigned d o a = o
made_once m number (x ∷ xs) assigned d o a = (
  any_append (assigns m x) (map (made m number) xs) assigned
      ∙ or_from (list_any (assigns m x) (map (made m number) xs)) (list_any (assigns m x) assigned) (unmade m number x xs d.0) a.0,
  made_once m number xs assigned d.1 o a.1,
)

assigns_turned : (a b : Assignment) → assigns a.1 a.0 b ≡ assigns b.1 b.0 a
assigns_turned a b = λ i. same_turned a.0 b.0 i && eqb_turned a.1 b.1 i
  where
    eqb_turned : (m n : ℕ) → (m == n) ≡ (n == m)
    eqb_turned m n = told_alike (m == n) (n == m) (λ e. eq-eqb n m (sym (eqb-true m n e))) (λ e. eq-eqb m n (sym (eqb-true n m e)))

once_placed : (x : Assignment) (ys : List Assignment) → list_any (assigns x.1 x.0) ys ≡ false → Once ys → Once (placed cmp_assignment x ys)
once_placed x [] h o = (refl, tt)
once_placed x (y ∷ ys) h o = by (is_gt (cmp_assignment x y)) (once_placed x ys)
  where
    both : (assigns x.1 x.0 y ≡ false) × (list_any (assigns x.1 x.0) ys ≡ false)
    both = or_parts (assigns x.1 x.0 y) (list_any (assigns x.1 x.0) ys) h

    by : (b : Bool) → (list_any (assigns x.1 x.0) ys ≡ false → Once ys → Once (placed cmp_assignment x ys)) → Once (if b then y ∷ placed cmp_assignment x ys else x ∷ y ∷ ys)
    by true r = (
      any_placed cmp_assignment (assigns y.1 y.0) x ys
          ∙ or_from (assigns y.1 y.0 x) (list_any (assigns y.1 y.0) ys) (assigns_turned y x ∙ both.0) o.0,
      r both.1 o.1,
    )
    by false r = (h, o)

once_ascending : (xs : List Assignment) → Once xs → Once (ascending cmp_assignment xs)
once_ascending [] o = tt
once_ascending (x ∷ xs) o =
    once_placed x (ascending cmp_assignment xs) (any_ascending cmp_assignment (assigns x.1 x.0) xs ∙ o.0) (once_ascending xs o.1)

-- each of them is found under its own measure
abbrev Own : List Assignment → Assignment → Type 0
Own all a = find (assigns a.1 a.0) all ≡ Some a

assigns_itself : (a : Assignment) → assigns a.1 a.0 a ≡ true
assigns_itself a = and_from (is_same a.0 a.0) (a.1 == a.1) (same_itself a.0) (eq-eqb a.1 a.1 refl)

own_later : (x : Assignment) (all xs : List Assignment) → list_any (assigns x.1 x.0) xs ≡ false → Each (Own all) xs → Each (Own (x ∷ all)) xs
own_later x all [] h a = tt
own_later x all (y ∷ ys) h a =
    let both = or_parts (assigns x.1 x.0 y) (list_any (assigns x.1 x.0) ys) h in
    (ap (λ b. cond b (Some x) (find (assigns y.1 y.0) all)) (assigns_turned y x ∙ both.0) ∙ a.0, own_later x all ys both.1 a.1)

own_from : (xs : List Assignment) → Once xs → Each (Own xs) xs
own_from [] o = tt
own_from (x ∷ xs) o =
    (ap (λ b. cond b (Some x) (find (assigns x.1 x.0) xs)) (assigns_itself x), own_later x xs xs o.0 (own_from xs o.1))

-- ---- an invariant through steps one after another
turns_keep : {A S E : Type 0} (Q : A → Type 0) (P : S → Type 0) (f : A → S → Result S E) → ((x : A) → Q x → (s t : S) → P s → f x s ≡ Ok t → P t)
    → (xs : List A) → Each Q xs → (s t : S) → P s → each_in_turn f xs s ≡ Ok t → P t
turns_keep Q P f keep [] q s t p e = let is : s ≡ t = cc in subst P is p
turns_keep {A} {S} {E} Q P f keep (x ∷ xs) q s t p e = by (f x s) refl (λ u. turns_keep Q P f keep xs q.1 u t) e
  where
    by : (r : Result S E) → f x s ≡ r → ((u : S) → P u → each_in_turn f xs u ≡ Ok t → P t) → (r >>= each_in_turn f xs) ≡ Ok t → P t
    by (Ok u) g rest e = rest u (keep x q.0 s u p g) e
    by (Err fault) g rest e = cc

-- ---- a growing shape
abbrev Ruled : Model → ℕ → Type 0
Ruled model number = (0 < number) × IsSome (slice_get model.part.rules (number - 1))

record Grown (model : Model) (keys : List Tuple) (g : Growing) : Type 0 where
  ascend : IsStrictlySortedBy cmp_key g.set
  kept : (key : Tuple) → is_among keys key ≡ true → is_among g.set key ≡ true
  placed : Each (λ a. is_among g.set a.0 ≡ true) g.assigned
  ruled : Each (λ a. Ruled model a.2) g.assigned
  once : Once g.assigned

module _ (model : Model) (keys : List Tuple) (number : ℕ) (rule : Rule) (ruled : Ruled model number) (left : SingleLeft) (g : Growing) (grown : Grown model keys g) where
  abbrev found : Targets
  found = targets left rule.mode g.set

  abbrev set : List Tuple
  set = ascending cmp_key (found.created ++ g.set)

  abbrev next : Growing
  next = record { set = set; assigned = map (made rule.measure number) found.cells ++ g.assigned }

  abbrev again : List Tuple
  again = filter (λ key. list_any (assigns rule.measure key) g.assigned) found.cells

  cells_once : Distinct found.cells
  cells_once = targets_once left rule.mode g.set (strict_distinct g.set grown.ascend)

  both_once : Distinct (found.created ++ g.set)
  both_once =
      distinct_append found.created g.set
      (distinct_kept (λ key. not (is_among g.set key)) found.cells cells_once)
      (strict_distinct g.set grown.ascend)
      (created_apart g.set found.cells)

  among_next : (q : Tuple) → is_among set q ≡ (is_among found.created q || is_among g.set q)
  among_next q = any_ascending cmp_key (is_same q) (found.created ++ g.set) ∙ any_append (is_same q) found.created g.set

  stays : (q : Tuple) → is_among g.set q ≡ true → is_among set q ≡ true
  stays q h = among_next q ∙ or_right (is_among found.created q) (is_among g.set q) h

  step_grown : Each (λ key. list_any (assigns rule.measure key) g.assigned ≡ false) found.cells → Grown model keys next
  step_grown new = record {
    ascend = strict_ascending (found.created ++ g.set) both_once;
    kept = λ key h. stays key (grown.kept key h);
    placed =
        each_append (λ a. is_among set a.0 ≡ true) (map (made rule.measure number) found.cells) g.assigned
        (each_mapped (λ (a : Assignment). is_among set a.0 ≡ true) (made rule.measure number) (λ q. is_among found.cells q ≡ true)
        (λ q h. among_next q ∙ there_or_created g.set found.cells q h) found.cells (each_itself found.cells))
        (each_map (λ (a : Assignment). is_among g.set a.0 ≡ true) (λ a. is_among set a.0 ≡ true) (λ a h. stays a.0 h) g.assigned grown.placed);
    ruled =
        each_append (λ a. Ruled model a.2) (map (made rule.measure number) found.cells) g.assigned
        (each_of (λ (a : Assignment). Ruled model a.2) (made rule.measure number) (λ q. ruled) found.cells) grown.ruled;
    once = made_once rule.measure number found.cells g.assigned cells_once grown.once new;
  }

  step_by : (least : Option Tuple) → least_of cmp_key again ≡ least → (many : Option Placed) (after : Growing)
      → option_map_or Err (option_or (option_map (λ key. placed_fault number key kind.AssignedTwice) least) many) (Ok next) ≡ Ok after → Grown model keys after
  step_by (Some key) e many after h = cc
  step_by None e (Some fault) after h = cc
  step_by None e None after h =
      let is : next ≡ after = cc in
      subst (Grown model keys) is (step_grown (none_kept (λ key. list_any (assigns rule.measure key) g.assigned) found.cells (least_none cmp_key again e)))

  step_keeps : (after : Growing) → shape_step number rule left g ≡ Ok after → Grown model keys after
  step_keeps after h = step_by (least_of cmp_key again) refl _ after h

each_any : {X : Type 0} (xs : List X) → Each (λ x. Unit {0}) xs
each_any [] = tt
each_any (x ∷ xs) = (tt, each_any xs)

rule_keeps : (model : Model) (keys : List Tuple) (x : ℕ × Rule) → Ruled model x.0 → (g after : Growing) → Grown model keys g → shape_rule model x g ≡ Ok after → Grown model keys after
rule_keeps model keys (number, rule) ruled g after grown h = by (marked (placed_fault number []) (unfold_rule model rule 0)) h
  where
    by : (r : Result (List SingleLeft) Placed) → (r >>= (λ lefts. each_in_turn (shape_step number rule) lefts g)) ≡ Ok after → Grown model keys after
    by (Ok lefts) h =
        turns_keep (λ left. Unit {0}) (Grown model keys) (shape_step number rule)
        (λ left u s t p e. step_keeps model keys number rule ruled left s p t e) lefts (each_any lefts) g after grown h
    by (Err fault) h = cc

-- rules are numbered from 1
numbered : (all rest : List Rule) (n : ℕ) → n + length rest ≤ length all + 1 → 0 < n
    → Each (λ x. (0 < x.0) × (x.0 ≤ length all)) (enumerate_from n rest)
numbered all [] n h p = tt
numbered all (x ∷ xs) n h p = ((p, omega (arith, h)), numbered all xs (n + 1) (omega (arith, h)) (omega arith))

in_list : {X : Type 0} (xs : List X) (n : ℕ) → n < length xs → IsSome (slice_get xs n)
in_list [] n h = absurd (omega (arith, h))
in_list (x ∷ xs) zero h = refl
in_list (x ∷ xs) (suc n) h = in_list xs n (omega (arith, h))

module _ (model : Model) (keys : List Tuple) (s : IsStrictlySortedBy cmp_key keys) where
  abbrev begun : Growing
  begun = record { set = keys; assigned = [] }

  begins : Grown model keys begun
  begins = record { ascend = s; kept = λ key h. h; placed = tt; ruled = tt; once = tt }

  rules_ruled : Each (λ x. Ruled model x.0) (enumerate_from 1 model.part.rules)
  rules_ruled =
      each_map (λ (x : ℕ × Rule). (0 < x.0) × (x.0 ≤ length model.part.rules)) (λ x. Ruled model x.0)
      (λ x h. (h.0, in_list model.part.rules (x.0 - 1) (omega (arith, h.0, h.1)))) (enumerate_from 1 model.part.rules)
      (numbered model.part.rules model.part.rules 1 (omega arith) (omega arith))

  abbrev shape_from : Growing → PartShape
  shape_from g = record { base = keys; cells = g.set; assigned = ascending cmp_assignment g.assigned }

  sound_from : (g : Growing) → Grown model keys g → IsSound model keys (shape_from g)
  sound_from g grown = record {
    base = refl;
    kept = grown.kept;
    ascend = grown.ascend;
    placed = all_of (λ (a : Assignment). is_among g.set a.0 ≡ true) (ascending cmp_assignment g.assigned)
        (each_ascending (λ (a : Assignment). is_among g.set a.0 ≡ true) cmp_assignment g.assigned grown.placed);
    ruled = all_of (λ (a : Assignment). Ruled model a.2) (ascending cmp_assignment g.assigned)
        (each_ascending (λ (a : Assignment). Ruled model a.2) cmp_assignment g.assigned grown.ruled);
    own = all_of (Own (ascending cmp_assignment g.assigned)) (ascending cmp_assignment g.assigned)
        (own_from (ascending cmp_assignment g.assigned) (once_ascending g.assigned grown.once));
  }

  pub sound : (shape : PartShape) → shape_over model keys ≡ Ok shape → IsSound model keys shape
  sound shape h = by (each_in_turn (shape_rule model) (enumerate_from 1 model.part.rules) begun) refl h
    where
      by : (r : Result Growing Placed) → each_in_turn (shape_rule model) (enumerate_from 1 model.part.rules) begun ≡ r → (r >>= (λ g. Ok (shape_from g))) ≡ Ok shape → IsSound model keys shape
      by (Ok g) e h =
          let is : shape_from g ≡ shape = cc in
          subst (IsSound model keys) is
          (sound_from g (turns_keep (λ (x : ℕ × Rule). Ruled model x.0) (Grown model keys) (shape_rule model) (λ x q a b p f. rule_keeps model keys x q a b p f)
          (enumerate_from 1 model.part.rules) rules_ruled begun g begins e))
      by (Err fault) e h = cc

pub shape_is_sound : (model : Model) (keys : List Tuple) (shape : PartShape) → ShapeIsSound model keys shape
shape_is_sound model keys shape s h = sound model keys s shape h
