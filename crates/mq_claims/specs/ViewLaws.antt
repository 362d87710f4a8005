-- Laws of what stands under a number.
use Rattle.std.proofs.Common.{◌≡◌, ℕ, Bool, true, false, cond, eqb, Option, List, [], ◌∷◌, ◌++◌, refl, ap}
use Rattle.mq_claims.specs.declared.view.Entry.{Entry}
use Rattle.mq_claims.specs.Views.{under}

module _ {P : Type 0} where
  -- of two lists of entries, first those of the one and then those of the other
  pub under-append : (k : ℕ) (a b : List (Entry P)) → under k (a ++ b) ≡ under k a ++ under k b
  under-append k [] b = refl
  under-append k (e ∷ a) b = go (eqb e.number k) (under-append k a b)
    where
      go : (t : Bool) → under k (a ++ b) ≡ under k a ++ under k b
          → cond t (e.piece ∷ under k (a ++ b)) (under k (a ++ b)) ≡ cond t (e.piece ∷ under k a) (under k a) ++ under k b
      go true h = ap (λ (l : List (Option P)). e.piece ∷ l) h
      go false h = h
