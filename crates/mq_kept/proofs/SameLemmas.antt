-- What holds of each item, one after another.
use Rattle.std.proofs.Common.{◌≡◌, ℕ, ◌+◌, ◌<◌, ◌≤◌, List, [], ◌∷◌, ◌++◌, map, take, length, get_or, sym, ap, subst, ◌∙◌, take_all}
use Rattle.std.specs.List.{All}
use Rattle.std.proofs.lemmas.List.{map-append, take_more}
use Rattle.mq_kept.proofs.FollowLemmas.{all_further}

module _ {A : Type 0} (xs : List A) where
  module _ (i : ℕ) (x : A) (within : i < length xs) (at : x ≡ get_or xs i x) where
    more : take (i + 1) xs ≡ take i xs ++ x ∷ []
    more = take_more xs i x within ∙ ap (λ (y : A). take i xs ++ y ∷ []) (sym at)

    pub each_further : (P : A → Type 0) → P x → All P (take i xs) → All P (take (i + 1) xs)
    each_further P p h = subst (All P) (sym more) (all_further P (take i xs) x h p)

    pub same_further : {B : Type 0} (f g : A → B) → f x ≡ g x → map f (take i xs) ≡ map g (take i xs) → map f (take (i + 1) xs) ≡ map g (take (i + 1) xs)
    same_further f g e h =
        ap (map f) more
        ∙ map-append f (take i xs) (x ∷ [])
        ∙ (λ j. h j ++ e j ∷ [])
        ∙ sym (map-append g (take i xs) (x ∷ []))
        ∙ ap (map g) (sym more)

  pub each_whole : (P : A → Type 0) (i : ℕ) → length xs ≤ i → All P (take i xs) → All P xs
  each_whole P i end h = subst (All P) (take_all i xs end) h

  pub same_whole : {B : Type 0} (f g : A → B) (i : ℕ) → length xs ≤ i → map f (take i xs) ≡ map g (take i xs) → map f xs ≡ map g xs
  same_whole f g i end h = ap (map f) (sym (take_all i xs end)) ∙ h ∙ ap (map g) (take_all i xs end)
