-- Names of measures: when they are the same, and which are among lists.
use Rattle.std.proofs.Common.{◌≡◌, Bool, true, false, not, ◌||◌, List, [], ◌∷◌, cond, map, Some, refl, sym, ap, ◌∙◌, eqb, ◌⊎◌, inl, inr}
use Rattle.std.specs.Prelude.{is_none, if◌then◌else◌}
use Rattle.std.specs.List.{filter, filter_map, find, flat_map, list_all, list_any}
use Rattle.std.specs.Option.{option_map}
use Rattle.std.specs.Ordering.{is_eq, is_gt}
use Rattle.std.specs.declared.cmp.Ordering.{Ordering}
use Rattle.std.proofs.lemmas.Bool.{and_from, and_parts, eq-eqb, eqb-true, or_cases, or_left, or_right}
use Rattle.std.proofs.lemmas.List.Folds.{list_any-append}
use Rattle.mq_values.specs.OrderTells.{key_itself}
use Rattle.mq_ir.specs.declared.query.CellName.{CellName}
use Rattle.mq_ir.specs.declared.query.Look.{Look}
use Rattle.mq_ir.specs.declared.query.Look.TheVariants.{Measure, Presence}
use Rattle.mq_ir.specs.declared.query.PartShape.{PartShape}
use Rattle.mq_ir.specs.Affected.{is_same_look}
use Rattle.mq_ir.specs.Automatic.{node_of, rule_at}
use Rattle.mq_ir.specs.Derivations.{assigned_names, is_among_steps, is_same_measure, measure_of, step_of}
use Rattle.mq_ir.specs.Keys.{is_same}
use Rattle.mq_ir.specs.Partitions.{Cells, ascending, placed}
use Rattle.mq_ir.specs.Shape.{Assignment, assigns}
use Rattle.mq_ir.specs.Unfolding.{Model}
use Rattle.mq_change_laws.specs.SoundLaws.{same_is}

-- the measure that an assignment is of
abbrev pub name_of : Assignment → CellName
name_of a = record { key = a.0; measure = a.1 }

-- names that are found to be the same are one
pub same_name_is : (a b : CellName) → is_same_measure a b ≡ true → a ≡ b
same_name_is a b h =
    let both = and_parts (is_same a.key b.key) (eqb a.measure b.measure) h in
    let key : a.key ≡ b.key = same_is a.key b.key both.0 in
    let measure : a.measure ≡ b.measure = eqb-true a.measure b.measure both.1 in
    λ i. record { key = key i; measure = measure i }

pub name_itself : (a : CellName) → is_same_measure a a ≡ true
name_itself a =
    and_from (is_same a.key a.key) (eqb a.measure a.measure) (ap is_eq (key_itself a.key)) (eq-eqb a.measure a.measure refl)

-- this name is among these
abbrev pub has : List CellName → CellName → Bool
has names m = list_any (is_same_measure m) names

-- what passes everywhere passes at a name that is there, and the other way round
pub all_at : (p : CellName → Bool) (m : CellName) (xs : List CellName) → list_all p xs ≡ true → has xs m ≡ true → p m ≡ true
all_at p m [] a h = cc
all_at p m (x ∷ xs) a h =
    let both = and_parts (p x) (list_all p xs) a in
    elim (or_cases (is_same_measure m x) (has xs m) h) [
      | inl e ↦ ap p (same_name_is m x e) ∙ both.0
      | inr l ↦ all_at p m xs both.1 l
    ]

pub all_from : (p : CellName → Bool) (xs : List CellName) → ((m : CellName) → has xs m ≡ true → p m ≡ true) → list_all p xs ≡ true
all_from p [] h = refl
all_from p (x ∷ xs) h =
    and_from (p x) (list_all p xs) (h x (or_left (is_same_measure x x) (has xs x) (name_itself x)))
    (all_from p xs (λ m l. h m (or_right (is_same_measure m x) (has xs m) l)))

-- a name that is there and passes is among what a test keeps
pub has_kept : (p : CellName → Bool) (m : CellName) (xs : List CellName) → p m ≡ true → has xs m ≡ true → has (filter p xs) m ≡ true
has_kept p m [] t h = cc
has_kept p m (x ∷ xs) t h = by (p x) refl (or_cases (is_same_measure m x) (has xs m) h) (has_kept p m xs t)
  where
    by : (b : Bool) → p x ≡ b → (is_same_measure m x ≡ true) ⊎ (has xs m ≡ true) → (has xs m ≡ true → has (filter p xs) m ≡ true)
        → has (cond b (x ∷ filter p xs) (filter p xs)) m ≡ true
    by true e (inl s) rest = or_left (is_same_measure m x) (has (filter p xs) m) s
    by true e (inr l) rest = or_right (is_same_measure m x) (has (filter p xs) m) (rest l)
    by false e (inl s) rest = let k : true ≡ false = sym t ∙ ap p (same_name_is m x s) ∙ e in cc
    by false e (inr l) rest = rest l

-- what is among the names that f gives of one is among those of all
pub has_flat : (f : CellName → List CellName) (m c : CellName) (xs : List CellName) → has (f c) m ≡ true → has xs c ≡ true
    → has (flat_map f xs) m ≡ true
has_flat f m c [] t h = cc
has_flat f m c (x ∷ xs) t h =
    list_any-append (is_same_measure m) (f x) (flat_map f xs)
    ∙ elim (or_cases (is_same_measure c x) (has xs c) h) [
      | inl e ↦ or_left (has (f x) m) (has (flat_map f xs) m) (ap (λ n. has (f n) m) (sym (same_name_is c x e)) ∙ t)
      | inr l ↦ or_right (has (f x) m) (has (flat_map f xs) m) (has_flat f m c xs t l)
    ]

pub swapped : (a b c : Bool) → (b || (a || c)) ≡ (a || (b || c))
swapped true true c = refl
swapped true false c = refl
swapped false true c = refl
swapped false false c = refl

-- putting names in order keeps each
module _ (cmp : CellName → CellName → Ordering) (m : CellName) where
  has_placed : (x : CellName) (ys : List CellName) → has (placed cmp x ys) m ≡ (is_same_measure m x || has ys m)
  has_placed x [] = refl
  has_placed x (y ∷ ys) = by (is_gt (cmp x y)) (has_placed x ys)
    where
      by : (b : Bool) → has (placed cmp x ys) m ≡ (is_same_measure m x || has ys m)
          → has (if b then y ∷ placed cmp x ys else x ∷ y ∷ ys) m ≡ (is_same_measure m x || (is_same_measure m y || has ys m))
      by true h = ap (λ b. is_same_measure m y || b) h ∙ swapped (is_same_measure m x) (is_same_measure m y) (has ys m)
      by false h = refl

  pub has_ascending : (xs : List CellName) → has (ascending cmp xs) m ≡ has xs m
  has_ascending [] = refl
  has_ascending (x ∷ xs) = has_placed x (ascending cmp xs) ∙ ap (λ b. is_same_measure m x || b) (has_ascending xs)

-- ---- the measures among looks
pub any_measure : (m : CellName) (looks : List Look) → list_any (is_same_look (Measure m)) looks ≡ has (filter_map measure_of looks) m
any_measure m [] = refl
any_measure m (Measure c ∷ looks) = ap (λ b. is_same_measure m c || b) (any_measure m looks)
any_measure m (Presence key ∷ looks) = any_measure m looks

pub all_measures : (p : Look → Bool) (looks : List Look) → list_all p looks ≡ true
    → list_all (λ c. p (Measure c)) (filter_map measure_of looks) ≡ true
all_measures p [] h = refl
all_measures p (Measure c ∷ looks) h =
    let both = and_parts (p (Measure c)) (list_all p looks) h in
    and_from (p (Measure c)) (list_all (λ c. p (Measure c)) (filter_map measure_of looks)) both.0 (all_measures p looks both.1)
all_measures p (Presence key ∷ looks) h = all_measures p looks (and_parts (p (Presence key)) (list_all p looks) h).1

-- ---- the assigned measures
found_alike : (c : CellName) (xs : List Assignment)
    → is_none (option_map (λ a. a.2) (find (assigns c.measure c.key) xs)) ≡ not (has (map name_of xs) c)
found_alike c [] = refl
found_alike c (x ∷ xs) = by (is_same_measure c (name_of x)) (found_alike c xs)
  where
    by : (b : Bool) → is_none (option_map (λ a. a.2) (find (assigns c.measure c.key) xs)) ≡ not (has (map name_of xs) c)
        → is_none (option_map (λ a. a.2) (cond b (Some x) (find (assigns c.measure c.key) xs))) ≡ not (b || has (map name_of xs) c)
    by true h = refl
    by false h = h

-- a measure has no rule exactly where it is not among the assigned ones
pub unruled_alike : (shape : PartShape) (c : CellName) → is_none (rule_at shape (Measure c)) ≡ not (has (assigned_names shape) c)
unruled_alike shape c = found_alike c shape.assigned

-- a test that an assigned measure passes, some assigned node passes
pub any_node : (p : Look → Bool) (c : CellName) → p (Measure c) ≡ true → (xs : List Assignment) → has (map name_of xs) c ≡ true
    → list_any p (map node_of xs) ≡ true
any_node p c t [] h = cc
any_node p c t (x ∷ xs) h =
    elim (or_cases (is_same_measure c (name_of x)) (has (map name_of xs) c) h) [
      | inl e ↦ or_left (p (node_of x)) (list_any p (map node_of xs))
          (ap (λ n. p (Measure n)) (sym (same_name_is c (name_of x) e)) ∙ t)
      | inr l ↦ or_right (p (node_of x)) (list_any p (map node_of xs)) (any_node p c t xs l)
    ]

-- the names of steps
pub among_steps : (model : Model) (shape : PartShape) (input : Cells) (m : CellName) (names : List CellName)
    → is_among_steps (map (step_of model shape input) names) m ≡ has names m
among_steps model shape input m [] = refl
among_steps model shape input m (x ∷ xs) = ap (λ b. is_same_measure m x || b) (among_steps model shape input m xs)
