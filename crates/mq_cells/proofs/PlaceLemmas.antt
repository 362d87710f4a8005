-- A list from one place on.
use Rattle.std.proofs.Common.{◌≡◌, ℕ, suc, ◌+◌, ◌<◌, List, ◌∷◌, length, get_or, drop, sym, ap, ◌∙◌, drop-cons, arith}

pub from_place : {X : Type 0} (xs : List X) (n at : ℕ) (x : X) → n + 1 ≡ at → n < length xs → get_or xs n x ∷ drop at xs ≡ drop n xs
from_place xs n at x e lt =
    let f : at ≡ suc n = omega (arith, e) in ap (λ k. get_or xs n x ∷ drop k xs) f ∙ sym (drop-cons xs n x lt)
