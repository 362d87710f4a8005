-- Lists and their items.
use Rattle.std.proofs.Common.{◌≡◌, ◌⊎◌, ℕ, zero, suc, Result, Ok, Err, List, [], ◌∷◌, ◌++◌, All, length, IfOk, sym, refl, ap, subst, inl, inr, arith}
use Rattle.std.specs.List.{AllZip}
use mathlib.Core.Option.{some, some-injective, some-ne-none}
use lib.ListN.{get_elem?}

module _ {A : Type 0} where
  pub not_nil : {B : Type 0} (x : A) (xs : List A) → [] ≡ x ∷ xs → B
  not_nil x xs e = absurd (some-ne-none x (sym (ap (λ (l : List A). get_elem? l 0) e)))

  module _ (Q : A → Type 0) where
    pub at : (xs : List A) (k : ℕ) (x : A) → All Q xs → get_elem? xs k ≡ some x → Q x
    at [] k x all e = absurd (some-ne-none x (sym e))
    at (y ∷ ys) zero x all e = subst Q (some-injective y x e) (all 0 x (omega arith))
    at (y ∷ ys) (suc k) x all e = at ys k x (λ j d lt. all (suc j) d (omega (arith, lt))) e

    pub all_front : (xs : List A) (x : A) → All Q (xs ++ x ∷ []) → All Q xs
    all_front [] x all k d lt = absurd (omega arith)
    all_front (y ∷ ys) x all zero d lt = all 0 d (omega arith)
    all_front (y ∷ ys) x all (suc k) d lt = all_front ys x (λ j d lt. all (suc j) d (omega (arith, lt))) k d (omega arith)

    pub all_last : (xs : List A) (x : A) → All Q (xs ++ x ∷ []) → Q x
    all_last [] x all = all 0 x (omega arith)
    all_last (y ∷ ys) x all = all_last ys x (λ j d lt. all (suc j) d (omega (arith, lt)))

  module _ (R : A → A → Type 0) where
    pub zipped : (xs ys : List A) → length ys ≡ length xs
        → ((k : ℕ) (y : A) → get_elem? ys k ≡ some y → (x : A) × (get_elem? xs k ≡ some x) × R x y) → AllZip R xs ys
    zipped [] [] same each = tt
    zipped [] (y ∷ ys) same each = absurd (omega arith)
    zipped (x ∷ xs) [] same each = absurd (omega arith)
    zipped (x ∷ xs) (y ∷ ys) same each = let h = each 0 y refl in (
      subst (λ z. R z y) (sym (some-injective x h.0 h.1)) h.2,
      zipped xs ys (omega arith) (λ k. each (suc k)),
    )

  -- two lists are one item together: it is all of the one, or all of the other
  pub one_of : (xs ys : List A) (x : A) → xs ++ ys ≡ x ∷ [] → (xs ≡ x ∷ []) ⊎ (ys ≡ x ∷ [])
  one_of [] ys x e = inr e
  one_of (z ∷ []) [] x e = inl e
  one_of (z ∷ []) (y ∷ ys) x e = absurd (let l = ap length e in omega arith)
  one_of (z ∷ w ∷ zs) ys x e = absurd (let l = ap length e in omega arith)

pub ok_then : {T E : Type 0} {A B : T → Type 0} (r : Result T E) → IfOk r A → ((v : T) → A v → B v) → IfOk r B
ok_then (Ok v) a f = f v a
ok_then (Err e) a f = tt
