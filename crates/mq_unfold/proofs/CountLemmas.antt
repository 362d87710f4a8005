-- How many combinations there are, as far as the limit.
use Rattle.std.proofs.Common.{◌≡◌, ℕ, zero, suc, ◌+◌, ◌-◌, ◌*◌, ◌^◌, ◌<◌, ◌≤◌, min, ◌⊎◌, inl, inr, List, [], ◌∷◌, map, length, drop, refl, sym, ap, ◌∙◌, arith}
use Rattle.std.proofs.lemmas.Bool.{cases_lt}
use Rattle.std.proofs.Math.Nat.{le-mul_of_pos_right, mul_assoc, mul_comm, mul-zero}
use Rattle.mq_values.specs.declared.limits.TheConstants.{MAX_SINGLE_LEFT_SIDES}
use Rattle.mq_unfold.specs.Spreads.{IsAlike}

-- two numbers that are alike are the same, or both above the limit
told : (m n : ℕ) → IsAlike m n → (m ≡ n) ⊎ ((MAX_SINGLE_LEFT_SIDES < m) × (MAX_SINGLE_LEFT_SIDES < n))
told m n h =
    elim (cases_lt MAX_SINGLE_LEFT_SIDES m) [
      | inl l ↦ elim (cases_lt MAX_SINGLE_LEFT_SIDES n) [ inl k ↦ inr (l, k) | inr k ↦ inl (omega (arith, h)) ]
      | inr l ↦ inl (omega (arith, h))
    ]

both_above : (m n : ℕ) → MAX_SINGLE_LEFT_SIDES < m → MAX_SINGLE_LEFT_SIDES < n → IsAlike m n
both_above m n h l = omega arith

-- a factor that is not nought makes no product smaller
grown : (m n : ℕ) → MAX_SINGLE_LEFT_SIDES < m → MAX_SINGLE_LEFT_SIDES < m * suc n
grown m n h = let l : m ≤ m * suc n = le-mul_of_pos_right m (omega arith) in omega (arith, l)

scaled : (m n k : ℕ) → MAX_SINGLE_LEFT_SIDES < m → MAX_SINGLE_LEFT_SIDES < n → IsAlike (m * k) (n * k)
scaled m n zero h l = ap (λ z. min z (MAX_SINGLE_LEFT_SIDES + 1)) (mul-zero m ∙ sym (mul-zero n))
scaled m n (suc k) h l = both_above (m * suc k) (n * suc k) (grown m k h) (grown n k l)

-- what is alike stays so under a factor
pub alike_times : (m n k : ℕ) → IsAlike m n → IsAlike (m * k) (n * k)
alike_times m n k h = elim (told m n h) [ inl e ↦ ap (λ z. min (z * k) (MAX_SINGLE_LEFT_SIDES + 1)) e | inr l ↦ scaled m n k l.0 l.1 ]

alike_behind : (m n k : ℕ) → IsAlike m n → IsAlike (k * m) (k * n)
alike_behind m n k h = ap (λ z. min z (MAX_SINGLE_LEFT_SIDES + 1)) (mul_comm k m) ∙ alike_times m n k h ∙ ap (λ z. min z (MAX_SINGLE_LEFT_SIDES + 1)) (mul_comm n k)

-- what stops at the end of 64 bits is alike
stopped : (n : ℕ) → IsAlike (min n (2 ^ 64 - 1)) n
stopped n = omega arith

capped : (count len : ℕ) → count ≡ min len (MAX_SINGLE_LEFT_SIDES + 1) → IsAlike count len
capped count len h = omega (arith, h)

-- the next spread's count in the number so far
pub counted_on : (number count len rest total : ℕ) → count ≡ min len (MAX_SINGLE_LEFT_SIDES + 1) → IsAlike (number * (len * rest)) total → IsAlike (min (number * count) (2 ^ 64 - 1) * rest) total
counted_on number count len rest total c h =
    alike_times (min (number * count) (2 ^ 64 - 1)) (number * len) rest (stopped (number * count) ∙ alike_behind count len number (capped count len c))
    ∙ ap (λ z. min z (MAX_SINGLE_LEFT_SIDES + 1)) (mul_assoc number len rest)
    ∙ h
