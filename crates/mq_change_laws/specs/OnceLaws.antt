-- Lists in which each key stands once, as the targets of a left side do.
use Rattle.std.proofs.Common.{◌≡◌, Bool, true, false, not, ◌&&◌, ◌||◌, List, [], ◌∷◌, ◌++◌, cond, Ordering, refl, ap, ◌∙◌, ◌+◌, map}
use Rattle.std.specs.Prelude.{if◌then◌else◌}
use Rattle.std.specs.List.{filter}
use Rattle.std.specs.Ordering.{is_gt}
use Rattle.std.proofs.lemmas.Bool.{or_parts, or_from}
use Rattle.mq_ir.specs.EachLaws.{Each}
use Rattle.mq_ir.specs.Keys.{Tuple, each_first, is_among, is_same}
use Rattle.mq_ir.specs.Partitions.{ascending, placed}
use Rattle.mq_values.specs.declared.operators.Mode.{Mode}
use Rattle.mq_values.specs.declared.operators.Mode.TheVariants.{Update, Upsert, UpsertAll}
use Rattle.mq_ir.specs.declared.query.SingleLeft.{SingleLeft}
use Rattle.mq_ir.specs.Targets.{cmp_targets, is_symbolic, meets_left, meets_symbols, named, projected, targets, targets_in}
use Rattle.mq_change_laws.specs.KeyLaws.{same_itself, same_turned, any_append, any_placed, any_ascending, among_kept}

-- ---- keys that stand once: none stands in the rest behind it
abbrev pub Distinct : List Tuple → Type 0
Distinct [] = Unit {0}
Distinct (x ∷ xs) = (is_among xs x ≡ false) × Distinct xs

lost : (p : Tuple → Bool) (q : Tuple) (xs : List Tuple) → is_among xs q ≡ false → is_among (filter p xs) q ≡ false
lost p q xs h = among_kept p q xs ∙ ap (λ b. p q && b) h ∙ none (p q)
  where
    none : (b : Bool) → (b && false) ≡ false
    none true = refl
    none false = refl

pub distinct_kept : (p : Tuple → Bool) (xs : List Tuple) → Distinct xs → Distinct (filter p xs)
distinct_kept p [] d = tt
distinct_kept p (x ∷ xs) d = by (p x) (distinct_kept p xs d.1)
  where
    by : (b : Bool) → Distinct (filter p xs) → Distinct (cond b (x ∷ filter p xs) (filter p xs))
    by true r = (lost p x xs d.0, r)
    by false r = r

distinct_placed : (cmp : Tuple → Tuple → Ordering) (x : Tuple) (ys : List Tuple) → is_among ys x ≡ false → Distinct ys
    → Distinct (placed cmp x ys)
distinct_placed cmp x [] h d = (refl, tt)
distinct_placed cmp x (y ∷ ys) h d = by (is_gt (cmp x y)) (distinct_placed cmp x ys)
  where
    both : (is_same x y ≡ false) × (is_among ys x ≡ false)
    both = or_parts (is_same x y) (is_among ys x) h

    by : (b : Bool) → (is_among ys x ≡ false → Distinct ys → Distinct (placed cmp x ys))
        → Distinct (if b then y ∷ placed cmp x ys else x ∷ y ∷ ys)
    by true r = (any_placed cmp (is_same y) x ys ∙ or_from (is_same y x) (is_among ys y) (same_turned y x ∙ both.0) d.0, r both.1 d.1)
    by false r = (h, d)

pub distinct_ascending : (cmp : Tuple → Tuple → Ordering) (xs : List Tuple) → Distinct xs → Distinct (ascending cmp xs)
distinct_ascending cmp [] d = tt
distinct_ascending cmp (x ∷ xs) d =
    distinct_placed cmp x (ascending cmp xs) (any_ascending cmp (is_same x) xs ∙ d.0) (distinct_ascending cmp xs d.1)

-- no key that a test refuses is among those that it keeps
refused : (p : Tuple → Bool) (q : Tuple) (xs : List Tuple) → p q ≡ false → is_among (filter p xs) q ≡ false
refused p q xs h = among_kept p q xs ∙ ap (λ b. b && is_among xs q) h

pub distinct_first : (xs : List Tuple) → Distinct (each_first xs)
distinct_first [] = tt
distinct_first (x ∷ xs) =
    let other : Tuple → Bool = λ k. not (is_same x k) in
    (refused other x (each_first xs) (ap not (same_itself x)), distinct_kept other (each_first xs) (distinct_first xs))

-- keys of which none is among others, before those
pub distinct_append : (xs ys : List Tuple) → Distinct xs → Distinct ys → Each (λ q. is_among ys q ≡ false) xs → Distinct (xs ++ ys)
distinct_append [] ys d e h = e
distinct_append (x ∷ xs) ys d e h =
    (any_append (is_same x) xs ys ∙ or_from (is_among xs x) (is_among ys x) d.0 h.0, distinct_append xs ys d.1 e h.1)

-- ---- a left side has each of its targets once
pub targets_once : (left : SingleLeft) (mode : Mode) (set : List Tuple) → Distinct set → Distinct (targets left mode set).cells
targets_once left mode set d = distinct_ascending (cmp_targets left) (targets_in left mode set) (by mode)
  where
    alone : Distinct (named left ∷ [])
    alone = (refl, tt)

    met : (b : Bool) → Distinct (if b then filter (meets_left left) set else named left ∷ [])
    met true = distinct_kept (meets_left left) set d
    met false = alone

    crossed : (b : Bool) → Distinct (if b then each_first (map (projected left) (filter (meets_symbols left) set)) else named left ∷ [])
    crossed true = distinct_first (map (projected left) (filter (meets_symbols left) set))
    crossed false = alone

    by : (m : Mode) → Distinct (targets_in left m set)
    by Update = distinct_kept (meets_left left) set d
    by Upsert = met (is_symbolic left)
    by UpsertAll = crossed (is_symbolic left)

-- the created cells are not there yet
pub created_apart : (set cells : List Tuple) → Each (λ q. is_among set q ≡ false) (filter (λ key. not (is_among set key)) cells)
created_apart set [] = tt
created_apart set (x ∷ xs) = by (is_among set x) refl (created_apart set xs)
  where
    by : (b : Bool) → is_among set x ≡ b → Each (λ q. is_among set q ≡ false) (filter (λ key. not (is_among set key)) xs)
        → Each (λ q. is_among set q ≡ false)
        (cond (not b) (x ∷ filter (λ key. not (is_among set key)) xs) (filter (λ key. not (is_among set key)) xs))
    by true e r = r
    by false e r = (e, r)

-- each target is there, or is created
pub there_or_created : (set cells : List Tuple) (q : Tuple) → is_among cells q ≡ true
    → (is_among (filter (λ key. not (is_among set key)) cells) q || is_among set q) ≡ true
there_or_created set cells q h =
    ap (λ b. b || is_among set q) (among_kept (λ key. not (is_among set key)) q cells ∙ ap (λ b. not (is_among set q) && b) h)
    ∙ either (is_among set q)
  where
    either : (b : Bool) → ((not b && true) || b) ≡ true
    either true = refl
    either false = refl
