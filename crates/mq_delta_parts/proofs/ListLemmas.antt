-- Tests and facts of the items of a list.
use Rattle.std.proofs.Common.{◌≡◌, Bool, true, false, cond, List, [], ◌∷◌, map, Option, Some, None, refl, sym, ap, ◌∙◌}
use Rattle.std.specs.List.{AllByRecursion, filter}
use Rattle.std.specs.Option.{option_map, unwrap_or}

-- what is kept of what another test keeps
module _ {A : Type 0} (p r : A → Bool) where
  pub kept_all : ((z : A) → p z ≡ true → r z ≡ true) → (xs : List A) → filter p (filter r xs) ≡ filter p xs
  kept_all h [] = refl
  kept_all h (x ∷ xs) = by (r x) refl (p x) refl (kept_all h xs)
    where
      by : (b : Bool) → r x ≡ b → (c : Bool) → p x ≡ c → filter p (filter r xs) ≡ filter p xs → filter p (cond b (x ∷ filter r xs) (filter r xs)) ≡ cond c (x ∷ filter p xs) (filter p xs)
      by true e true f g = ap (λ c. cond c (x ∷ filter p (filter r xs)) (filter p (filter r xs))) f ∙ ap (λ l. x ∷ l) g
      by true e false f g = ap (λ c. cond c (x ∷ filter p (filter r xs)) (filter p (filter r xs))) f ∙ g
      by false e true f g = let k = h x f in cc
      by false e false f g = g

  pub kept_none : ((z : A) → p z ≡ true → r z ≡ false) → (xs : List A) → filter p (filter r xs) ≡ []
  kept_none h [] = refl
  kept_none h (x ∷ xs) = by (r x) refl (p x) refl (kept_none h xs)
    where
      by : (b : Bool) → r x ≡ b → (c : Bool) → p x ≡ c → filter p (filter r xs) ≡ [] → filter p (cond b (x ∷ filter r xs) (filter r xs)) ≡ []
      by true e true f g = let k = h x f in cc
      by true e false f g = ap (λ c. cond c (x ∷ filter p (filter r xs)) (filter p (filter r xs))) f ∙ g
      by false e c f g = g

module _ {A : Type 0} where
  pub none_passes : (p : A → Bool) → ((z : A) → p z ≡ false) → (xs : List A) → filter p xs ≡ []
  none_passes p h [] = refl
  none_passes p h (x ∷ xs) = ap (λ b. cond b (x ∷ filter p xs) (filter p xs)) (h x) ∙ none_passes p h xs

  pub kept_mapped : {B : Type 0} (f : A → B) (p : B → Bool) (xs : List A) → filter p (map f xs) ≡ map f (filter (λ x. p (f x)) xs)
  kept_mapped f p [] = refl
  kept_mapped f p (x ∷ xs) = by (p (f x)) (kept_mapped f p xs)
    where
      by : (b : Bool) → filter p (map f xs) ≡ map f (filter (λ x. p (f x)) xs) → cond b (f x ∷ filter p (map f xs)) (filter p (map f xs)) ≡ map f (cond b (x ∷ filter (λ x. p (f x)) xs) (filter (λ x. p (f x)) xs))
      by true g = ap (λ l. f x ∷ l) g
      by false g = g

-- a fact of each item
module _ {A : Type 0} (P : A → Type 0) where
  pub all_passed : (p : A → Bool) → ((z : A) → p z ≡ true → P z) → (xs : List A) → AllByRecursion P (filter p xs)
  all_passed p h [] = tt
  all_passed p h (x ∷ xs) = by (p x) refl (all_passed p h xs)
    where
      by : (b : Bool) → p x ≡ b → AllByRecursion P (filter p xs) → AllByRecursion P (cond b (x ∷ filter p xs) (filter p xs))
      by true e g = (h x e, g)
      by false e g = g

-- what stands in an Option
module _ {A : Type 0} where
  pub some_same : (a b : A) → Some a ≡ Some b → a ≡ b
  some_same a b e = ap (λ o. unwrap_or o a) e

  pub mapped_some : {B : Type 0} (f : A → B) (o : Option A) (y : B) → option_map f o ≡ Some y → (x : A) × (o ≡ Some x) × (y ≡ f x)
  mapped_some f None y e = absurd (cc)
  mapped_some f (Some x) y e = (x, refl, sym (ap (λ p. unwrap_or p (f x)) e))
