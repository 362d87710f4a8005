-- Lists whose items are numbered.
use Rattle.std.proofs.Common.{◌≡◌, ℕ, ◌+◌, ◌<◌, ◌≤◌, List, [], ◌∷◌, ◌++◌, Bool, true, false, cond, length, map, get_or, Option, Some, Result, Ok, Err, refl, sym, ap, subst, ◌∙◌, arith}
use Rattle.std.specs.List.{enumerate_from, find, position, position_from}
use Rattle.std.specs.Option.{option_map_or}
use Rattle.std.proofs.lemmas.Iterator.Adapters.{position_from-zero}
use Rattle.std.proofs.lemmas.List.{map-append}
use Rattle.std.proofs.lemmas.List.FromFn.{get_or-enumerate_from, length-enumerate_from}
use Rattle.mq_values.specs.Answers.{Gives}
use Rattle.mq_values.specs.declared.memory.Fail.{Fail}
use Rattle.mq_ir.specs.Results.{each}
use Rattle.mq_scalar.specs.WalkLaws.{Walked, walk_end, walk_exit, walk_next, walk_start}

-- the first i items with their numbers gave ys
pub record Numbered {A B E : Type 0} (f : ℕ × A → Result B E) (xs : List A) (i : ℕ) (ys : List B) : Type 0 where
  pub is : Walked f (enumerate_from 0 xs) i ys

-- an item with its number
numbered_is : {A : Type 0} (xs : List A) (i : ℕ) (x : A) → i < length xs → x ≡ get_or xs i x → (i, x) ≡ get_or (enumerate_from 0 xs) i (i, x)
numbered_is xs i x h e = (λ j. (i, e j)) ∙ sym (get_or-enumerate_from 0 xs i (i, x) h ∙ (λ j. (zero_and i j, get_or xs i x)))
  where
    zero_and : (n : ℕ) → 0 + n ≡ n
    zero_and n = omega arith

numbered_within : {A : Type 0} (xs : List A) (i : ℕ) → i < length xs → i < length (enumerate_from 0 xs)
numbered_within xs i h = omega (arith, h, length-enumerate_from 0 xs)

numbered_done : {A : Type 0} (xs : List A) (i : ℕ) → length xs ≤ i → length (enumerate_from 0 xs) ≤ i
numbered_done xs i h = omega (arith, h, length-enumerate_from 0 xs)

module _ {A B E : Type 0} (f : ℕ × A → Result B E) (xs : List A) where
  pub number_start : Numbered f xs 0 []
  number_start = record { is = walk_start f (enumerate_from 0 xs) }

  pub number_next : (i : ℕ) (ys : List B) (x : A) (y : B) → i < length xs → x ≡ get_or xs i x → f (i, x) ≡ Ok y → Numbered f xs i ys → Numbered f xs (i + 1) (ys ++ y ∷ [])
  number_next i ys x y h e g w = record { is = walk_next f (enumerate_from 0 xs) i ys (i, x) y (numbered_within xs i h) (numbered_is xs i x h e) g w.is }

  pub number_end : (i : ℕ) (ys : List B) → length xs ≤ i → Numbered f xs i ys → each f (enumerate_from 0 xs) ≡ Ok ys
  number_end i ys h w = walk_end f (enumerate_from 0 xs) i ys (numbered_done xs i h) w.is

  pub number_exit : (i : ℕ) (ys : List B) (x : A) (e : Fail E) → i < length xs → x ≡ get_or xs i x → Numbered f xs i ys → Gives {T = B} (Err e) (f (i, x)) → Gives {T = List B} (Err e) (each f (enumerate_from 0 xs))
  number_exit i ys x e h at w g = walk_exit f (enumerate_from 0 xs) i ys (i, x) e (numbered_within xs i h) (numbered_is xs i x h at) w.is g

-- a walk whose items are told by what g makes of them
pub mapped_next : {A B C E : Type 0} (g : C → B) (f : A → Result B E) (xs : List A) (i : ℕ) (cs after : List C) (x : A) (c : C)
    → i < length xs → x ≡ get_or xs i x → f x ≡ Ok (g c) → after ≡ cs ++ c ∷ [] → Walked f xs i (map g cs) → Walked f xs (i + 1) (map g after)
mapped_next g f xs i cs after x c h e m a w =
    subst (λ ys. Walked f xs (i + 1) ys) (sym (ap (map g) a ∙ map-append g cs (c ∷ []))) (walk_next f xs i (map g cs) x (g c) h e m w)

-- ---- the number of the first item that passes
module _ {A : Type 0} (p : A → Bool) where
  abbrev number_from : ℕ → List A → ℕ
  number_from k xs = option_map_or (λ (r : ℕ × A). r.0) (find (λ (r : ℕ × A). p r.1) (enumerate_from (k + 1) xs)) 0

  number_is : (k : ℕ) (xs : List A) → number_from k xs ≡ option_map_or (λ i. i + 1) (position_from p k xs) 0
  number_is k [] = refl
  number_is k (x ∷ xs) = by (p x) (number_is (k + 1) xs)
    where
      by : (b : Bool) → number_from (k + 1) xs ≡ option_map_or (λ i. i + 1) (position_from p (k + 1) xs) 0
          → option_map_or (λ (r : ℕ × A). r.0) (cond b (Some (k + 1, x)) (find (λ (r : ℕ × A). p r.1) (enumerate_from (k + 1 + 1) xs))) 0
          ≡ option_map_or (λ i. i + 1) (cond b (Some k) (position_from p (k + 1) xs)) 0
      by true h = refl
      by false h = h

  -- counted from 1, and 0 where there is none
  pub first_number : (xs : List A) (o : Option ℕ) → position p xs ≡ o → option_map_or (λ (r : ℕ × A). r.0) (find (λ (r : ℕ × A). p r.1) (enumerate_from 1 xs)) 0 ≡ option_map_or (λ i. i + 1) o 0
  first_number xs o h = number_is 0 xs ∙ ap (λ (o : Option ℕ). option_map_or (λ i. i + 1) o 0) (sym (position_from-zero p xs) ∙ h)
