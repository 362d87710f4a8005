-- What holds of each item of a list holds of the one that is found in it.
use Rattle.std.proofs.Common.{◌≡◌, List, [], ◌∷◌, Bool, true, false, cond, Some, subst}
use Rattle.std.specs.List.{All, find}
use Rattle.std.proofs.lemmas.List.Elements.{All-head, All-tail}

module _ {A : Type 0} (p : A → Bool) where
  pub all_found : (P : A → Type 0) (xs : List A) (x : A) → All P xs → find p xs ≡ Some x → P x
  all_found P [] x a h = absurd (cc)
  all_found P (y ∷ ys) x a h = by (p y) (all_found P ys x (All-tail P y ys a)) h
    where
      by : (b : Bool) → (find p ys ≡ Some x → P x) → cond b (Some y) (find p ys) ≡ Some x → P x
      by true k g = let q : y ≡ x = cc in subst P q (All-head P y ys a)
      by false k g = k g
