-- Sums of numbers over lists.
use Rattle.std.proofs.Common.{◌≡◌, ℕ, zero, suc, ◌+◌, ◌<◌, ◌≤◌, Bool, true, false, ◌&&◌, not, List, [], ◌∷◌, ◌++◌, cond, length, take, get_or, Some, refl, sym, ap, ◌∙◌, arith}
use Rattle.std.specs.Prelude.{slice_get, if◌then◌else◌}
use Rattle.std.specs.List.{filter, range_with_len}
use Rattle.mq_delta_cells.specs.Bounds.{total}

-- the number of an item that passes, else none
abbrev pub where_it : {X : Type 0} → (X → Bool) → (X → ℕ) → X → ℕ
where_it p f x = if p x then f x else 0

pub total_append : {X : Type 0} (f : X → ℕ) (xs ys : List X) → total f (xs ++ ys) ≡ total f xs + total f ys
total_append f [] ys = omega arith
total_append f (x ∷ xs) ys = omega (arith, total_append f xs ys)

-- a front of a list comes to no more than the list
pub total_front : {X : Type 0} (f : X → ℕ) (n : ℕ) (xs : List X) → total f (take n xs) ≤ total f xs
total_front f zero xs = omega arith
total_front f (suc n) [] = omega arith
total_front f (suc n) (x ∷ xs) = omega (arith, total_front f n xs)

pub total_next : {X : Type 0} (f : X → ℕ) (n : ℕ) (xs : List X) (x : X) → n < length xs → x ≡ get_or xs n x
    → total f (take n xs) + f x ≡ total f (take (suc n) xs)
total_next f n [] x h e = absurd (omega (arith, h))
total_next f zero (y ∷ ys) x h e = omega (arith, ap f e)
total_next f (suc n) (y ∷ ys) x h e = omega (arith, total_next f n ys x (omega (arith, h)) e)

-- of what passes p, and of what passes q and not p, where p implies q
pub total_round : {X : Type 0} (p q : X → Bool) (f : X → ℕ) → ((x : X) → p x ≡ true → q x ≡ true) → (xs : List X)
    → total (where_it p f) xs + total f (filter (λ x. q x && not (p x)) xs) ≤ total (where_it q f) xs
total_round p q f w [] = omega arith
total_round p q f w (x ∷ xs) = by (p x) refl (q x) refl (total_round p q f w xs)
  where
    by : (a : Bool) → p x ≡ a → (b : Bool) → q x ≡ b
        → total (where_it p f) xs + total f (filter (λ x. q x && not (p x)) xs) ≤ total (where_it q f) xs
        → ((if a then f x else 0) + total (where_it p f) xs)
        + total f (cond (b && not a) (x ∷ filter (λ x. q x && not (p x)) xs) (filter (λ x. q x && not (p x)) xs))
        ≤ (if b then f x else 0) + total (where_it q f) xs
    by true e true g h = omega (arith, h)
    by true e false g h = absurd (let k : true ≡ false = sym (w x e) ∙ g in cc)
    by false e true g h = omega (arith, h)
    by false e false g h = omega (arith, h)

pub total_within : {X : Type 0} (p : X → Bool) (f : X → ℕ) (xs : List X) → total (where_it p f) xs ≤ total f xs
total_within p f [] = omega arith
total_within p f (x ∷ xs) = by (p x) (total_within p f xs)
  where
    by : (a : Bool) → total (where_it p f) xs ≤ total f xs → (if a then f x else 0) + total (where_it p f) xs ≤ f x + total f xs
    by true h = omega (arith, h)
    by false h = omega (arith, h)

-- numbers by places are those of the items that stand there
pub total_places : {A : Type 0} (f : ℕ → ℕ) (g : A → ℕ) (ys : List A) (k : ℕ)
    → ((i : ℕ) (y : A) → slice_get ys i ≡ Some y → f (k + i) ≡ g y) → total f (range_with_len k (length ys)) ≡ total g ys
total_places f g [] k h = refl
total_places f g (y ∷ ys) k h =
    let here : f k ≡ g y = ap f (nothing_more k) ∙ h 0 y refl in
    let rest : total f (range_with_len (k + 1) (length ys)) ≡ total g ys =
    total_places f g ys (k + 1) (λ i z e. ap f (one_more k i) ∙ h (suc i) z e) in
    omega (arith, here, rest)
  where
    nothing_more : (k : ℕ) → k ≡ k + 0
    nothing_more k = omega arith

    one_more : (k i : ℕ) → k + 1 + i ≡ k + suc i
    one_more k i = omega arith
