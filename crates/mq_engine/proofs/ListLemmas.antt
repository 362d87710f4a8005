-- Lists that are searched, filtered and mapped.
use Rattle.std.proofs.Common.{◌≡◌, List, [], ◌∷◌, ◌++◌, Bool, true, false, not, cond, map, Some, None, refl, ap}
use Rattle.std.specs.List.{filter, find}

module _ {A B : Type 0} (f : A → B) where
  pub mapped_kept : (p : B → Bool) (xs : List A) → map f (filter (λ x. p (f x)) xs) ≡ filter p (map f xs)
  mapped_kept p [] = refl
  mapped_kept p (x ∷ xs) = by (p (f x)) (mapped_kept p xs)
    where
      by : (b : Bool) → map f (filter (λ x. p (f x)) xs) ≡ filter p (map f xs)
          → map f (cond b (x ∷ filter (λ x. p (f x)) xs) (filter (λ x. p (f x)) xs)) ≡ cond b (f x ∷ filter p (map f xs)) (filter p (map f xs))
      by true h = ap (λ l. f x ∷ l) h
      by false h = h

module _ {A : Type 0} (p : A → Bool) where
  -- what was put behind the others is taken away
  pub taken_back : (xs : List A) (x : A) → find p xs ≡ None → p x ≡ true → filter (λ y. not (p y)) (xs ++ x ∷ []) ≡ xs
  taken_back [] x h e = ap (λ b. cond (not b) (x ∷ []) []) e
  taken_back (y ∷ ys) x h e = by (p y) (λ g. taken_back ys x g e) h
    where
      by : (b : Bool) → (find p ys ≡ None → filter (λ y. not (p y)) (ys ++ x ∷ []) ≡ ys) → cond b (Some y) (find p ys) ≡ None
          → cond (not b) (y ∷ filter (λ y. not (p y)) (ys ++ x ∷ [])) (filter (λ y. not (p y)) (ys ++ x ∷ [])) ≡ y ∷ ys
      by true k g = absurd (cc)
      by false k g = ap (λ l. y ∷ l) (k g)
