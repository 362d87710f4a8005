-- Loops over a list from its last item to its first.
use Rattle.std.proofs.Common.{◌≡◌, ℕ, suc, ◌+◌, ◌<◌, List, ◌∷◌, drop, length, get_or, sym, ◌∙◌, drop-cons, arith}

-- a loop from the last item to the first comes to item number n
pub item_before : {A : Type 0} (xs : List A) (n at : ℕ) (x : A) → n + 1 ≡ at → n < length xs → x ≡ get_or xs n x → drop n xs ≡ x ∷ drop at xs
item_before xs n at x e lt is = let f : suc n ≡ at = omega (arith, e) in drop-cons xs n x lt ∙ (λ j. sym is j ∷ drop (f j) xs)
