-- Sums of numbers of one scale.
use Rattle.std.proofs.Common.{◌≡◌, ℕ, suc, ◌-◌, ◌*◌, ◌^◌, max, ℤ, pos, negsuc, neg_ℤ, ◌+ℤ◌, ◌*ℤ◌, true, refl, ap, ◌∙◌, arith}
use Rattle.mq_values.specs.Arithmetic.{in_range, sum_of}
use Rattle.mq_values.specs.Number.{Number, is_mantissa, mant_at}

times_one : (z : ℤ) → z *ℤ pos 1 ≡ z
times_one (pos n) = let e : n * 1 ≡ n = omega arith in ap pos e
times_one (negsuc n) = let e : suc n * 1 ≡ suc n = omega arith in ap (λ k. neg_ℤ (pos k)) e

as_it_stands : (n : Number) (s : ℕ) → s ≡ n.scale → mant_at s n ≡ n.mant
as_it_stands n s e = let none : s - n.scale ≡ 0 = omega (arith, e) in ap (λ k. n.mant *ℤ pos (10 ^ k)) none ∙ times_one n.mant

brought : (a b : Number) → is_mantissa (mant_at (max a.scale b.scale) a) ≡ true → is_mantissa (mant_at (max a.scale b.scale) b) ≡ true →
    sum_of a b ≡ in_range (mant_at (max a.scale b.scale) a +ℤ mant_at (max a.scale b.scale) b) (max a.scale b.scale)
brought a b p q = rw (p, q) refl

-- the sum of two numbers of one scale is that of their mantissas
pub sum_at_scale : (a b : Number) → a.scale ≡ b.scale → is_mantissa a.mant ≡ true → is_mantissa b.mant ≡ true → sum_of a b ≡ in_range (a.mant +ℤ b.mant) a.scale
sum_at_scale a b e p q =
    let s = max a.scale b.scale in
    let scale : s ≡ a.scale = omega (arith, e) in
    let left = as_it_stands a s scale in
    let right = as_it_stands b s (scale ∙ e) in
    brought a b (ap is_mantissa left ∙ p) (ap is_mantissa right ∙ q) ∙ (λ i. in_range (left i +ℤ right i) (scale i))
