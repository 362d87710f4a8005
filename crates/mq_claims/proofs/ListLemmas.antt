-- Lists read by `get_elem?`, and counts over them.
use Rattle.std.proofs.Common.{◌≡◌, ℕ, zero, suc, ◌+◌, ◌<◌, Bool, false, cond, List, [], ◌∷◌, ◌++◌, map, length, replicate, set, count_by, sym, refl, ap, ◌∙◌, arith}
use Rattle.std.proofs.lemmas.List.Sums.{sum_by-cons}
use mathlib.Core.Option.{some, some-injective, some-ne-none}
use lib.ListN.{get_elem?}

module _ {A : Type 0} where
  pub there : (l : List A) (i : ℕ) → i < length l → (a : A) × (get_elem? l i ≡ some a)
  there [] i h = absurd (omega arith)
  there (x ∷ xs) zero h = (x, refl)
  there (x ∷ xs) (suc i) h = there xs i (omega arith)

  pub inside : (l : List A) (i : ℕ) (a : A) → get_elem? l i ≡ some a → i < length l
  inside [] i a e = absurd (some-ne-none a (sym e))
  inside (x ∷ xs) zero a e = omega arith
  inside (x ∷ xs) (suc i) a e = let below : i < length xs = inside xs i a e in omega arith

  pub same : (l : List A) (i : ℕ) (a b : A) → get_elem? l i ≡ some a → get_elem? l i ≡ some b → a ≡ b
  same l i a b e f = some-injective a b (sym e ∙ f)

  pub in_replicate : (n i : ℕ) (a b : A) → get_elem? (replicate n a) i ≡ some b → a ≡ b
  in_replicate zero i a b e = absurd (some-ne-none b (sym e))
  in_replicate (suc n) zero a b e = some-injective a b e
  in_replicate (suc n) (suc i) a b e = in_replicate n i a b e

  pub map_back : {B : Type 0} (f : A → B) (l : List A) (i : ℕ) (b : B) → get_elem? (map f l) i ≡ some b
      → (a : A) × (get_elem? l i ≡ some a) × (f a ≡ b)
  map_back f [] i b e = absurd (some-ne-none b (sym e))
  map_back f (x ∷ xs) zero b e = (x, refl, some-injective (f x) b e)
  map_back f (x ∷ xs) (suc i) b e = map_back f xs i b e

  module _ (f : A → Bool) where
    abbrev pub one : A → ℕ
    one x = cond (f x) 1 0

    pub count-cons : (x : A) (l : List A) → count_by f (x ∷ l) ≡ one x + count_by f l
    count-cons x l = sum_by-cons (λ (y : A). cond (f y) 1 0) x l

    pub count-set : (l : List A) (i : ℕ) (x y : A) → get_elem? l i ≡ some x → count_by f (set l i y) + one x ≡ count_by f l + one y
    count-set [] i x y e = absurd (some-ne-none x (sym e))
    count-set (z ∷ l) zero x y e =
        let is : one z ≡ one x = ap one (some-injective z x e) in let a = count-cons y l in let b = count-cons z l in omega arith
    count-set (z ∷ l) (suc i) x y e =
        let a = count-cons z (set l i y) in let b = count-cons z l in let c = count-set l i x y e in omega arith

    pub count-snoc : (l : List A) (x : A) → count_by f (l ++ x ∷ []) ≡ count_by f l + one x
    count-snoc [] x = let a = count-cons x [] in omega arith
    count-snoc (z ∷ l) x = let a = count-cons z (l ++ x ∷ []) in let b = count-cons z l in let c = count-snoc l x in omega arith

    pub count-map : (g : A → A) → ((x : A) → f (g x) ≡ f x) → (l : List A) → count_by f (map g l) ≡ count_by f l
    count-map g same [] = refl
    count-map g same (z ∷ l) =
        let a = count-cons (g z) (map g l) in let b = count-cons z l in let c = count-map g same l in
        let d : one (g z) ≡ one z = ap (λ (t : Bool). cond t 1 0) (same z) in omega arith

    pub count-none : (n : ℕ) (x : A) → f x ≡ false → count_by f (replicate n x) ≡ 0
    count-none zero x off = refl
    count-none (suc n) x off = let a = count-cons x (replicate n x) in let b : one x ≡ 0 = ap (λ (t : Bool). cond t 1 0) off in
        let c = count-none n x off in omega arith
