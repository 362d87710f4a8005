-- The range of a mantissa, as the code's checked steps find it.
use Rattle.std.proofs.Common.{◌≡◌, ℕ, ◌-◌, ◌^◌, ◌<◌, ◌≤◌, ℤ, pos, neg_ℤ, ◌*ℤ◌, ◌<ℤ◌, ◌≤ℤ◌, Bool, true, false, ◌&&◌, refl, sym, ap, ◌∙◌, arith, FitsSigned, int_le, int_lt, Some, None, int_cmp, to_z, of_z, if◌then◌else◌}
use Rattle.std.specs.Int.{w128}
use Rattle.std.proofs.lemmas.Int.{ints, to_z-of_z}
use Rattle.mq_values.specs.Number.{Number, is_mantissa, fitting, cmp_worth}
use Rattle.mq_values.specs.NumberOrder.{cmp_by_way, cmp_out_below, cmp_out_above, times-lt, ten_pos}
use Rattle.std.proofs.Math.Nat.{mul-le-mul_right, zero-mul}
use Rattle.std.specs.Cmp.{int_ranks}
use Rattle.std.proofs.lemmas.Cmp.{by_ranked}
use borrow.Author.Differences.{up, down}

-- what a mantissa in range is
pub Fitting_some : (m z : ℤ) → Some m ≡ fitting z → (m ≡ z) × FitsSigned w128 m
Fitting_some m z h = by (int_le (neg_ℤ (pos (2 ^ 127))) z) (int_lt z (pos (2 ^ 127))) refl refl h
  where
    by : (s t : Bool) → int_le (neg_ℤ (pos (2 ^ 127))) z ≡ s → int_lt z (pos (2 ^ 127)) ≡ t → Some m ≡ (if s && t then Some z else None) → (m ≡ z) × FitsSigned w128 m
    by true true e f g = let q : m ≡ z = cc in (q, omega (arith, ints))
    by true false e f g = cc
    by false t e f g = cc

pub Fitting_true : (m z : ℤ) → Some m ≡ fitting z → is_mantissa z ≡ true
Fitting_true m z h = by (is_mantissa z) refl h
  where
    by : (s : Bool) → is_mantissa z ≡ s → Some m ≡ (if s then Some z else None) → s ≡ true
    by true e g = refl
    by false e g = cc

-- what the code finds to fit 128 bits is in range
pub fits_mantissa : (z : ℤ) → FitsSigned w128 z → is_mantissa z ≡ true
fits_mantissa z f = by (int_le (neg_ℤ (pos (2 ^ 127))) z) (int_lt z (pos (2 ^ 127))) refl refl
  where
    by : (s t : Bool) → int_le (neg_ℤ (pos (2 ^ 127))) z ≡ s → int_lt z (pos (2 ^ 127)) ≡ t → (s && t) ≡ true
    by true true e g = refl
    by true false e g = absurd (omega (arith, ints))
    by false t e g = absurd (omega (arith, ints))

pub unfit_mantissa : (z : ℤ) → (FitsSigned w128 z → ⊥) → is_mantissa z ≡ false
unfit_mantissa z f = by (int_le (neg_ℤ (pos (2 ^ 127))) z) (int_lt z (pos (2 ^ 127))) refl refl
  where
    by : (s t : Bool) → int_le (neg_ℤ (pos (2 ^ 127))) z ≡ s → int_lt z (pos (2 ^ 127)) ≡ t → (s && t) ≡ false
    by true true e g = absurd (f (omega (arith, ints)))
    by true false e g = refl
    by false t e g = refl

pub Fitting_none : (z : ℤ) → None ≡ fitting z → is_mantissa z ≡ false
Fitting_none z h = by (is_mantissa z) refl h
  where
    by : (s : Bool) → is_mantissa z ≡ s → None ≡ (if s then Some z else None) → s ≡ false
    by true e g = cc
    by false e g = refl

pub negative_times : (z : ℤ) (k : ℕ) → 0 < k → z <ℤ pos 0 → (z *ℤ pos k) <ℤ pos 0
negative_times z k p h = let l = times-lt z (pos 0) k p h in omega (arith, ints)

pub positive_times : (z : ℤ) (k : ℕ) → pos 0 ≤ℤ z → pos 0 ≤ℤ (z *ℤ pos k)
positive_times z k h = let l : down z ≤ up z = omega (arith, ints) in omega (arith, ints, mul-le-mul_right k l)

-- how a number of a smaller scale s compares with one of a larger scale t, by what bringing it to that scale gave
pub record Compared (a b : Number) (n : ℤ) (s t : ℕ) : Type 0 where
  pub a_scale : a.scale ≡ s
  pub b_scale : b.scale ≡ t
  pub b_mant : b.mant ≡ n
  pub below : a.scale ≤ b.scale
  pub last : t ≤ 12

cmp_worth_is : (a b : Number) (n : ℤ) (s t : ℕ) → Compared a b n s t → cmp_worth a b ≡ int_cmp (a.mant *ℤ pos (10 ^ (t - s))) n
cmp_worth_is a b n s t h =
    cmp_by_way a.mant b.mant a.scale b.scale (omega (arith, h)) (omega (arith, h)) ∙ (λ i. int_cmp (a.mant *ℤ pos (10 ^ (h.b_scale i - h.a_scale i))) (h.b_mant i))

pub cmp_some : (a b : Number) (n : ℤ) (s t : ℕ) (m : ℤ) → Compared a b n s t → Some m ≡ fitting (a.mant *ℤ pos (10 ^ (t - s))) → int_cmp (to_z w128 (of_z w128 m)) n ≡ cmp_worth a b
cmp_some a b n s t m c h =
    let k = Fitting_some m (a.mant *ℤ pos (10 ^ (t - s))) h in
    ap (λ z. int_cmp z n) (to_z-of_z w128 m k.1 ∙ k.0) ∙ sym (cmp_worth_is a b n s t c)

-- where it leaves the range, its sign decides
pub cmp_none : (a b : Number) (n : ℤ) (s t : ℕ) → Compared a b n s t → FitsSigned w128 n → None ≡ fitting (a.mant *ℤ pos (10 ^ (t - s))) → int_cmp a.mant (pos 0) ≡ cmp_worth a b
cmp_none a b n s t c f h =
    let z = a.mant *ℤ pos (10 ^ (t - s)) in
    let out = Fitting_none z h in
    by_ranked (a.mant <ℤ pos 0) (a.mant ≡ pos 0) (pos 0 <ℤ a.mant) (int_cmp a.mant (pos 0)) (int_ranks a.mant (pos 0))
    (λ e l. e ∙ sym (cmp_worth_is a b n s t c ∙ cmp_out_below z n out (negative_times a.mant (10 ^ (t - s)) (ten_pos (t - s)) l) f))
    (λ e l. let w : is_mantissa (pos 0 *ℤ pos (10 ^ (t - s))) ≡ false = ap (λ m. is_mantissa (m *ℤ pos (10 ^ (t - s)))) (sym l) ∙ out in absurd (zero_in (10 ^ (t - s)) w))
    (λ e l. e ∙ sym (cmp_worth_is a b n s t c ∙ cmp_out_above z n out (positive_times a.mant (10 ^ (t - s)) (omega (arith, ints))) f))
  where
    zero_in : (k : ℕ) → is_mantissa (pos 0 *ℤ pos k) ≡ false → ⊥
    zero_in k w = let e : is_mantissa (pos 0 *ℤ pos k) ≡ true = ap (λ n. is_mantissa (pos n)) (zero-mul k) in cc
