-- Pieces taken out of their slots, one by one.
use Rattle.std.proofs.Common.{◌≡◌, ℕ, zero, suc, ◌+◌, ◌<◌, ◌≤◌, Bool, true, false, Option, Some, None, is_some, true≢false, List, [], ◌∷◌, ◌++◌, map, take, get_or, set, sym, refl, ap, ◌∙◌, add-one, get_or-set_other, arith}
use mathlib.Core.Option.{some, some-injective, some-ne-none}
use mathlib.Core.Logic.{dite}
use native.Mathlib.Decide.{ℕ_discrete}
use lib.ListN.{get_elem?}

module _ {P : Type 0} where
  pub not_none : (l : List (Option P)) (i : ℕ) (p : P) → get_elem? l i ≡ some (Some p) → get_elem? l i ≡ some None → ⊥
  not_none l i p e f = true≢false (ap is_some (some-injective _ _ (sym e ∙ f)))

  pub next_taken : (ps : List P) (xs : List (Option P)) (i : ℕ) (p : P) → map Some ps ≡ take i xs → get_elem? xs i ≡ some (Some p)
      → map Some (ps ++ p ∷ []) ≡ take (i + 1) xs
  next_taken ps xs i p e at = map_snoc ps p ∙ ap (λ (l : List (Option P)). l ++ Some p ∷ []) e ∙ sym (taken xs i (Some p) at) ∙ ap
      (λ (n : ℕ). take n xs) (sym (add-one i))
    where
      map_snoc : (ps : List P) (p : P) → map Some (ps ++ p ∷ []) ≡ map Some ps ++ Some p ∷ []
      map_snoc [] p = refl
      map_snoc (q ∷ ps) p = ap (λ (l : List (Option P)). Some q ∷ l) (map_snoc ps p)

      taken : (xs : List (Option P)) (i : ℕ) (x : Option P) → get_elem? xs i ≡ some x → take (suc i) xs ≡ take i xs ++ x ∷ []
      taken [] i x e = absurd (some-ne-none x (sym e))
      taken (y ∷ xs) zero x e = ap (λ (z : Option P). z ∷ []) (some-injective y x e)
      taken (y ∷ xs) (suc i) x e = ap (λ (l : List (Option P)). y ∷ l) (taken xs i x e)

emptied : (l : List Bool) (i : ℕ) → get_or (set l i false) i false ≡ false
emptied [] i = refl
emptied (x ∷ l) zero = refl
emptied (x ∷ l) (suc i) = emptied l i

-- the places up to i are empty once it is
pub empty_to : (l : List Bool) (i : ℕ) → ((k : ℕ) → k < i → get_or l k false ≡ false) → (k : ℕ) → k < i + 1
    → get_or (set l i false) k false ≡ false
empty_to l i before k lt = dite (ℕ_discrete k i) (λ e. ap (λ (j : ℕ). get_or (set l i false) j false) e ∙ emptied l i)
    (λ ne. get_or-set_other l i k false false ne ∙ before k (omega (arith, ne)))

-- and the others are as they were
pub full_from : (l : List Bool) (i n : ℕ) → ((k : ℕ) → i ≤ k → k < n → get_or l k false ≡ true) → (k : ℕ) → i + 1 ≤ k → k < n
    → get_or (set l i false) k false ≡ true
full_from l i n before k le lt = get_or-set_other l i k false false (λ e. omega arith) ∙ before k (omega arith) lt
