-- Digits with zeros in front say the number.
use Rattle.std.proofs.Common.{◌≡◌, ℕ, zero, suc, ◌+◌, ◌/◌, ◌%◌, ◌^◌, ◌<◌, List, [], ◌∷◌, ◌++◌, length, refl, ap, arith, length-append}
use Rattle.std.proofs.Math.Nat.{pow-suc}
use Rattle.mq_values.specs.Number.{fixed_digits}

-- two texts that end in parts of one length are equal part by part
pub same_ends : (xs zs ys ws : List ℕ) → length ys ≡ length ws → xs ++ ys ≡ zs ++ ws → (xs ≡ zs) × (ys ≡ ws)
same_ends [] [] ys ws l h = (refl, h)
same_ends [] (z ∷ zs) ys ws l h = absurd (omega (arith, ap length h, length-append zs ws))
same_ends (x ∷ xs) [] ys ws l h = absurd (omega (arith, ap length h, length-append xs ys))
same_ends (x ∷ xs) (z ∷ zs) ys ws l h =
    let first : x ≡ z = cc in
    let rest : xs ++ ys ≡ zs ++ ws = cc in
    let p = same_ends xs zs ys ws l rest in
    ((λ i. first i ∷ p.0 i), p.1)

front_below : (k m : ℕ) → m < 10 ^ suc k → m / 10 < 10 ^ k
front_below k m h = omega (arith, pow-suc 10 k)

-- digits with zeros in front say the number
pub fixed_apart : (k m n : ℕ) → m < 10 ^ k → n < 10 ^ k → fixed_digits k m ≡ fixed_digits k n → m ≡ n
fixed_apart zero m n hm hn h = omega arith
fixed_apart (suc k) m n hm hn h =
    let p = same_ends (fixed_digits k (m / 10)) (fixed_digits k (n / 10)) ((48 + m % 10) ∷ []) ((48 + n % 10) ∷ []) refl h in
    let last : 48 + m % 10 ≡ 48 + n % 10 = cc in
    let front : m / 10 ≡ n / 10 = fixed_apart k (m / 10) (n / 10) (front_below k m hm) (front_below k n hn) p.0 in
    omega arith
