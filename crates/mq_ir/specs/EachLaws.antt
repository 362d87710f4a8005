-- Lists of which each item has a property.
use Rattle.std.proofs.Common.{List, [], ◌∷◌, ◌++◌, map, Bool, true, false, not}
use Rattle.std.specs.Prelude.{if◌then◌else◌}
use Rattle.std.specs.List.{All, AllByRecursion, filter, flat_map}
use Rattle.std.specs.Ordering.{is_gt}
use Rattle.std.specs.declared.cmp.Ordering.{Ordering}
use Rattle.std.proofs.lemmas.List.Elements.{All-from_recursion, All-head, All-tail}
use Rattle.mq_ir.specs.Keys.{Tuple, each_first, is_same}
use Rattle.mq_ir.specs.Partitions.{ascending, placed}

-- each of these has it, item by item
abbrev pub Each : {X : Type 0} → (X → Type 0) → List X → Type 0
Each = AllByRecursion

module _ {X : Type 0} (P : X → Type 0) where
  pub each_append : (xs ys : List X) → Each P xs → Each P ys → Each P (xs ++ ys)
  each_append [] ys a b = b
  each_append (x ∷ xs) ys a b = (a.0, each_append xs ys a.1 b)

  pub each_flat : {A : Type 0} (f : A → List X) → ((x : A) → Each P (f x)) → (xs : List A) → Each P (flat_map f xs)
  each_flat f h [] = tt
  each_flat f h (x ∷ xs) = each_append (f x) (flat_map f xs) (h x) (each_flat f h xs)

  pub each_mapped : {A : Type 0} (f : A → X) (Q : A → Type 0) → ((x : A) → Q x → P (f x)) → (xs : List A) → Each Q xs → Each P (map f xs)
  each_mapped f Q h [] a = tt
  each_mapped f Q h (x ∷ xs) a = (h x a.0, each_mapped f Q h xs a.1)

  pub each_of : {A : Type 0} (f : A → X) → ((x : A) → P (f x)) → (xs : List A) → Each P (map f xs)
  each_of f h [] = tt
  each_of f h (x ∷ xs) = (h x, each_of f h xs)

  pub each_kept : (test : X → Bool) (xs : List X) → Each P xs → Each P (filter test xs)
  each_kept test [] a = tt
  each_kept test (x ∷ xs) a = by (test x) (each_kept test xs a.1)
    where
      by : (b : Bool) → Each P (filter test xs) → Each P (if b then x ∷ filter test xs else filter test xs)
      by true rest = (a.0, rest)
      by false rest = rest

  pub each_placed : (cmp : X → X → Ordering) (x : X) (xs : List X) → P x → Each P xs → Each P (placed cmp x xs)
  each_placed cmp x [] p a = (p, tt)
  each_placed cmp x (y ∷ ys) p a = by (is_gt (cmp x y)) (each_placed cmp x ys p a.1)
    where
      by : (b : Bool) → Each P (placed cmp x ys) → Each P (if b then y ∷ placed cmp x ys else x ∷ y ∷ ys)
      by true rest = (a.0, rest)
      by false rest = (p, a)

  pub each_ascending : (cmp : X → X → Ordering) (xs : List X) → Each P xs → Each P (ascending cmp xs)
  each_ascending cmp [] a = tt
  each_ascending cmp (x ∷ xs) a = each_placed cmp x (ascending cmp xs) a.0 (each_ascending cmp xs a.1)

pub each_once : (P : Tuple → Type 0) (keys : List Tuple) → Each P keys → Each P (each_first keys)
each_once P [] a = tt
each_once P (key ∷ keys) a = (a.0, each_kept P (λ k. not (is_same key k)) (each_first keys) (each_once P keys a.1))

-- in the words of std
pub all_of : {X : Type 0} (P : X → Type 0) (xs : List X) → Each P xs → All P xs
all_of P xs a = All-from_recursion P xs (a)

pub each_in : {X : Type 0} (P : X → Type 0) (xs : List X) → All P xs → Each P xs
each_in P [] a = tt
each_in P (x ∷ xs) a = (All-head P x xs a, each_in P xs (All-tail P x xs a))
