-- The targets of a single left side are told apart, and what is created and assigned is new.
use Rattle.std.proofs.Common.{◌≡◌, ℕ, zero, suc, ◌+◌, ◌<◌, ◌==◌, ◌&&◌, Bool, true, false, not, ◌||◌, cond, List, [], ◌∷◌, ◌++◌, drop, length, get_or, map, Ordering, Less, Equal, Greater, refl, ap, subst, ◌∙◌}
use Rattle.std.specs.Prelude.{if◌then◌else◌}
use Rattle.std.specs.List.{AllByRecursion, filter, list_any}
use Rattle.std.specs.List.Sorted.{IsStrictlySortedBy}
use Rattle.std.specs.Ordering.{is_eq, is_gt}
use Rattle.std.proofs.lemmas.List.Folds.{list_any-append}
use Rattle.mq_values.specs.Order.{cmp_key}
use Rattle.mq_values.specs.OrderTells.{key_itself, same_key}
use Rattle.mq_values.specs.declared.operators.Mode.{Mode}
use Rattle.mq_values.specs.declared.operators.Mode.TheVariants.{Update, Upsert, UpsertAll}
use Rattle.mq_ir.specs.declared.query.SingleLeft.{SingleLeft}
use Rattle.mq_ir.specs.Keys.{Tuple, each_first, is_among, is_same}
use Rattle.mq_ir.specs.Partitions.{ascending, placed}
use Rattle.mq_ir.specs.Shape.{Assignment, assigns, cmp_assignment}
use Rattle.mq_ir.specs.Targets.{cmp_targets, is_symbolic, meets_left, meets_symbols, named, projected, targets, targets_in}
use Rattle.mq_auto_shape.specs.Walk.{Fresh, IsFresh, assigned_by, placed_all}
use Rattle.mq_auto_shape.proofs.MeaningLemmas.{any_ascending, any_placed}
use Rattle.mq_auto_shape.proofs.StepLemmas.{item_before}

equal_is : (r : Ordering) → is_eq r ≡ true → r ≡ Equal
equal_is Less h = cc
equal_is Equal h = refl
equal_is Greater h = cc

same_is : (a b : Tuple) → is_same a b ≡ true → a ≡ b
same_is a b h = same_key a b (equal_is (cmp_key a b) h)

other_way : (a b : Tuple) → is_same a b ≡ false → is_same b a ≡ false
other_way a b h = by (is_same b a) refl
  where
    by : (s : Bool) → is_same b a ≡ s → s ≡ false
    by true e = let g : is_same a b ≡ true = ap (is_same a) (same_is b a e) ∙ ap is_eq (key_itself a) in cc
    by false e = refl

-- keys of which none is the same as a later one
abbrev Apart : List Tuple → Type 0
Apart [] = Unit {0}
Apart (x ∷ xs) = (is_among xs x ≡ false) × Apart xs

neither : (a b : Bool) → (a || b) ≡ false → (a ≡ false) × (b ≡ false)
neither true b h = cc
neither false b h = (refl, h)

not_kept : (p : Tuple → Bool) (q : Tuple) (xs : List Tuple) → is_among xs q ≡ false → is_among (filter p xs) q ≡ false
not_kept p q [] h = refl
not_kept p q (x ∷ xs) h = let both = neither (is_same q x) (is_among xs q) h in by (p x) both.0 (not_kept p q xs both.1)
  where
    by : (b : Bool) → is_same q x ≡ false → is_among (filter p xs) q ≡ false → is_among (cond b (x ∷ filter p xs) (filter p xs)) q ≡ false
    by true e rest = ap (λ c. c || is_among (filter p xs) q) e ∙ rest
    by false e rest = rest

apart_kept : (p : Tuple → Bool) (xs : List Tuple) → Apart xs → Apart (filter p xs)
apart_kept p [] a = tt
apart_kept p (x ∷ xs) a = by (p x) (apart_kept p xs a.1)
  where
    by : (b : Bool) → Apart (filter p xs) → Apart (cond b (x ∷ filter p xs) (filter p xs))
    by true rest = (not_kept p x xs a.0, rest)
    by false rest = rest

below_all : (x : Tuple) (xs : List Tuple) → AllByRecursion (λ y. cmp_key x y ≡ Less) xs → is_among xs x ≡ false
below_all x [] h = refl
below_all x (y ∷ ys) h = ap (λ (r : Ordering). is_eq r || is_among ys x) h.0 ∙ below_all x ys h.1

apart_sorted : (xs : List Tuple) → IsStrictlySortedBy cmp_key xs → Apart xs
unfolding IsStrictlySortedBy
apart_sorted [] s = tt
apart_sorted (x ∷ xs) s = (below_all x xs s.0, apart_sorted xs s.1)

lost : (x : Tuple) (xs : List Tuple) → is_among (filter (λ k. not (is_same x k)) xs) x ≡ false
lost x [] = refl
lost x (y ∷ ys) = by (is_same x y) refl (lost x ys)
  where
    by : (s : Bool) → is_same x y ≡ s → is_among (filter (λ k. not (is_same x k)) ys) x ≡ false
        → is_among (cond (not s) (y ∷ filter (λ k. not (is_same x k)) ys) (filter (λ k. not (is_same x k)) ys)) x ≡ false
    by true e rest = rest
    by false e rest = ap (λ b. b || is_among (filter (λ k. not (is_same x k)) ys) x) e ∙ rest

apart_once : (keys : List Tuple) → Apart (each_first keys)
apart_once [] = tt
apart_once (key ∷ keys) = (lost key (each_first keys), apart_kept (λ k. not (is_same key k)) (each_first keys) (apart_once keys))

apart_placed : (cmp : Tuple → Tuple → Ordering) (x : Tuple) (ys : List Tuple) → is_among ys x ≡ false → Apart ys → Apart (placed cmp x ys)
apart_placed cmp x [] h a = (refl, tt)
apart_placed cmp x (y ∷ ys) h a = let both = neither (is_same x y) (is_among ys x) h in by (is_gt (cmp x y)) both.0 (apart_placed cmp x ys both.1 a.1)
  where
    by : (g : Bool) → is_same x y ≡ false → Apart (placed cmp x ys) → Apart (if g then y ∷ placed cmp x ys else x ∷ y ∷ ys)
    by true e rest = (any_placed cmp (is_same y) x ys ∙ ap (λ b. b || is_among ys y) (other_way x y e) ∙ a.0, rest)
    by false e rest = (h, a)

apart_ascending : (cmp : Tuple → Tuple → Ordering) (xs : List Tuple) → Apart xs → Apart (ascending cmp xs)
apart_ascending cmp [] a = tt
apart_ascending cmp (x ∷ xs) a = apart_placed cmp x (ascending cmp xs) (any_ascending cmp (is_same x) xs ∙ a.0) (apart_ascending cmp xs a.1)

module _ (left : SingleLeft) (set : List Tuple) (s : IsStrictlySortedBy cmp_key set) where
  found_apart : (mode : Mode) → Apart (targets_in left mode set)
  found_apart Update = apart_kept (meets_left left) set (apart_sorted set s)
  found_apart Upsert = by (is_symbolic left)
    where
      by : (b : Bool) → Apart (if b then filter (meets_left left) set else named left ∷ [])
      by true = apart_kept (meets_left left) set (apart_sorted set s)
      by false = (refl, tt)
  found_apart UpsertAll = by (is_symbolic left)
    where
      by : (b : Bool) → Apart (if b then each_first (map (projected left) (filter (meets_symbols left) set)) else named left ∷ [])
      by true = apart_once (map (projected left) (filter (meets_symbols left) set))
      by false = (refl, tt)

  targets_apart : (mode : Mode) → Apart (targets left mode set).cells
  targets_apart mode = apart_ascending (cmp_targets left) (targets_in left mode set) (found_apart mode)

  -- the created cells are new
  pub created_fresh : (mode : Mode) → Fresh (is_among set) (targets left mode set).created
  created_fresh mode = by (targets left mode set).cells (targets_apart mode)
    where
      by : (cells : List Tuple) → Apart cells → Fresh (is_among set) (filter (λ key. not (is_among set key)) cells)
      by [] a = tt
      by (x ∷ xs) a = pick (is_among set x) refl (by xs a.1)
        where
          pick : (b : Bool) → is_among set x ≡ b → Fresh (is_among set) (filter (λ key. not (is_among set key)) xs)
              → Fresh (is_among set) (cond (not b) (x ∷ filter (λ key. not (is_among set key)) xs) (filter (λ key. not (is_among set key)) xs))
          pick true e rest = rest
          pick false e rest = (record { lacking = e; once = not_kept (λ key. not (is_among set key)) x xs a.0 }, rest)

  -- targets of which none passes a test are new to it
  pub targets_fresh : (mode : Mode) (had : Tuple → Bool) → filter had (targets left mode set).cells ≡ [] → Fresh had (targets left mode set).cells
  targets_fresh mode had none = by (targets left mode set).cells (targets_apart mode) none
    where
      by : (cells : List Tuple) → Apart cells → filter had cells ≡ [] → Fresh had cells
      by [] a h = tt
      by (x ∷ xs) a h = pick (had x) refl h (λ g. by xs a.1 g)
        where
          pick : (b : Bool) → had x ≡ b → cond b (x ∷ filter had xs) (filter had xs) ≡ [] → (filter had xs ≡ [] → Fresh had xs) → Fresh had (x ∷ xs)
          pick true e g rest = cc
          pick false e g rest = (record { lacking = e; once = a.0 }, rest g)

-- ---- keys that come one by one, from the last to the first
fresh_from : (had : Tuple → Bool) (xs : List Tuple) (n : ℕ) → Fresh had xs → Fresh had (drop n xs)
fresh_from had xs zero f = f
fresh_from had [] (suc n) f = tt
fresh_from had (x ∷ xs) (suc n) f = fresh_from had xs n f.1

fresh_at : (had : Tuple → Bool) (xs : List Tuple) (n at : ℕ) (x : Tuple) → n + 1 ≡ at → n < length xs → x ≡ get_or xs n x → Fresh had xs → IsFresh had x (drop at xs)
fresh_at had xs n at x e lt is f = (subst (Fresh had) (item_before xs n at x e lt is) (fresh_from had xs n f)).0

-- a key that is new is not there once later ones came
pub key_lacking : (keys set now : List Tuple) (n at : ℕ) (x : Tuple) → n + 1 ≡ at → n < length keys → x ≡ get_or keys n x → Fresh (is_among set) keys
    → now ≡ ascending cmp_key (drop at keys ++ set) → is_among now x ≡ false
key_lacking keys set now n at x e lt is f h =
    let fresh = fresh_at (is_among set) keys n at x e lt is f in
    ap (λ (l : List Tuple). is_among l x) h ∙ any_ascending cmp_key (is_same x) (drop at keys ++ set) ∙ list_any-append (is_same x) (drop at keys) set
    ∙ (λ i. fresh.once i || fresh.lacking i)

module _ (m number : ℕ) where
  any_placed_all : (p : Assignment → Bool) (xs ys : List Assignment) → list_any p (placed_all cmp_assignment xs ys) ≡ (list_any p xs || list_any p ys)
  any_placed_all p [] ys = refl
  any_placed_all p (x ∷ xs) ys =
      any_placed cmp_assignment p x (placed_all cmp_assignment xs ys) ∙ ap (λ b. p x || b) (any_placed_all p xs ys) ∙ grouped (p x) (list_any p xs) (list_any p ys)
    where
      grouped : (a b c : Bool) → (a || (b || c)) ≡ ((a || b) || c)
      grouped true b c = refl
      grouped false b c = refl

  any_made : (key : Tuple) (xs : List Tuple) → is_among xs key ≡ false → list_any (assigns m key) (map (assigned_by m number) xs) ≡ false
  any_made key [] h = refl
  any_made key (x ∷ xs) h =
      let both = neither (is_same key x) (is_among xs key) h in
      ap (λ b. (b && (m == m)) || list_any (assigns m key) (map (assigned_by m number) xs)) both.0 ∙ any_made key xs both.1

  -- a measure that is new is not assigned once later ones are
  pub node_lacking : (x : Tuple) (rest : List Tuple) (nodes now : List Assignment) → IsFresh (λ key. list_any (assigns m key) nodes) x rest
      → now ≡ placed_all cmp_assignment (map (assigned_by m number) rest) nodes → list_any (assigns m x) now ≡ false
  node_lacking x rest nodes now fresh h =
      ap (λ (l : List Assignment). list_any (assigns m x) l) h ∙ any_placed_all (assigns m x) (map (assigned_by m number) rest) nodes
      ∙ (λ i. any_made x rest fresh.once i || fresh.lacking i)
