-- Rounding, casts, differences and floors in other words.
use Rattle.std.proofs.Common.{◌≡◌, ◌≢◌, ⊎_elim, ℕ, zero, suc, ◌+◌, ◌-◌, ◌*◌, ◌^◌, ◌<◌, ◌≤◌, max, ℤ, pos, negsuc, neg_ℤ, ◌+ℤ◌, ◌-ℤ◌, ◌*ℤ◌, ◌<ℤ◌, ◌≤ℤ◌, Bool, true, false, ◌&&◌, refl, sym, ap, ◌∙◌, arith, unsigned_abs, Ok, Err, Ordering, Less, Equal, Greater, if◌then◌else◌}
use Rattle.std.proofs.lemmas.Int.{ints}
use Rattle.std.proofs.Math.Nat.{div-mul-le_self, lt-div-mul-add, zero-mul, eq-or-lt_of_le}
use Rattle.std.specs.Prelude.{nat_le}
use Rattle.std.proofs.lemmas.Bool.Decides.{nat_tests}
use Rattle.std.specs.Int.{int_div_euclid}
use Rattle.std.specs.Ordering.{nat_cmp, ordering_then}
use Rattle.std.proofs.Math.IntN.{*ℤ-one, neg_ℤ-neg_ℤ}
use lib.IntN.{one}
use Rattle.mq_values.specs.Number.{Number, is_mantissa, mant_at, cmp_worth}
use Rattle.mq_values.specs.NumberOrder.{ten_pos, neg_times}
use Rattle.mq_values.specs.Arithmetic.{in_range, half_up, rounded, rescaled, sum_of, difference_of}
use Rattle.mq_values.specs.NumberLaws.{RoundsToNearest, CastsBackNearby, SubtractsByNegation, FloorsBelow, OrdersByWorth}
use Rattle.mq_values.specs.declared.faults.ValueFault.TheVariants.{Overflow}

half_up_near : (n d : ℕ) → 0 < d → (2 * n < 2 * (half_up n d * d) + d) × (2 * (half_up n d * d) ≤ 2 * n + d)
half_up_near n d p =
    let q = half_up n d in
    let low : q * (2 * d) ≤ 2 * n + d = div-mul-le_self (2 * n + d) (2 * d) in
    let high : 2 * n + d < q * (2 * d) + 2 * d = lt-div-mul-add {a = 2 * n + d} {b = 2 * d} (omega arith) in
    (omega arith, omega arith)

negative_times_negative : (q e : ℕ) → neg_ℤ (pos q) *ℤ negsuc e ≡ pos (q * suc e)
negative_times_negative zero e = ap (λ n. neg_ℤ (pos n)) (zero-mul (suc e)) ∙ ap (λ n. pos n) (sym (zero-mul (suc e)))
negative_times_negative (suc q) e = refl

near_pos : (n p d : ℕ) → (2 * n < 2 * p + d) × (2 * p ≤ 2 * n + d) → (2 * unsigned_abs (pos n -ℤ pos p) ≤ d) × (2 * unsigned_abs (pos n -ℤ pos p) ≡ d → n < p)
near_pos n p d h = (omega (arith, ints), λ e. omega (arith, ints))

near_neg : (n p d : ℕ) → (2 * suc n < 2 * p + d) × (2 * p ≤ 2 * suc n + d) → (2 * unsigned_abs (negsuc n -ℤ neg_ℤ (pos p)) ≤ d) × (2 * unsigned_abs (negsuc n -ℤ neg_ℤ (pos p)) ≡ d → suc n < unsigned_abs (neg_ℤ (pos p)))
near_neg n p d h = (omega (arith, ints), λ e. omega (arith, ints))

pub rounds : RoundsToNearest
rounds (pos n) (pos zero) ne = absurd (ne refl)
rounds (pos n) (pos (suc d)) ne = near_pos n (half_up n (suc d) * suc d) (suc d) (half_up_near n (suc d) (omega arith))
rounds (pos n) (negsuc d) ne =
    rw (negative_times_negative (half_up n (suc d)) d) (near_pos n (half_up n (suc d) * suc d) (suc d) (half_up_near n (suc d) (omega arith)))
rounds (negsuc n) (pos zero) ne = absurd (ne refl)
rounds (negsuc n) (pos (suc d)) ne =
    rw (neg_times (half_up (suc n) (suc d)) (suc d)) (near_neg n (half_up (suc n) (suc d) * suc d) (suc d) (half_up_near (suc n) (suc d) (omega arith)))
rounds (negsuc n) (negsuc d) ne = near_neg n (half_up (suc n) (suc d) * suc d) (suc d) (half_up_near (suc n) (suc d) (omega arith))

-- a result that is no fault
in_range_gives : (m : ℤ) (s : ℕ) (x : Number) → in_range m s ≡ Ok x → (x.mant ≡ m) × (x.scale ≡ s)
in_range_gives m s x h = by (is_mantissa m) h
  where
    by : (t : Bool) → (if t then Ok (record { mant = m; scale = s }) else Err Overflow) ≡ Ok x → (x.mant ≡ m) × (x.scale ≡ s)
    by true e = let k : record { mant = m; scale = s } ≡ x = cc in (ap (λ (n : Number). n.mant) (sym k), ap (λ (n : Number). n.scale) (sym k))
    by false e = cc

rescaled_up : (n : Number) (s : ℕ) → n.scale ≤ s → rescaled n s ≡ in_range (mant_at s n) s
rescaled_up n s h = let t : nat_le n.scale s ≡ true = grind (arith, nat_tests) in rw (t) refl

rescaled_down : (n : Number) (s : ℕ) → s < n.scale → rescaled n s ≡ in_range (rounded n.mant (pos (10 ^ (n.scale - s)))) s
rescaled_down n s h = let t : nat_le n.scale s ≡ false = grind (arith, nat_tests) in rw (t) refl

one_factor : (z : ℤ) → z *ℤ pos 1 ≡ z
unfolding one
one_factor z = *ℤ-one z

times_one : (z : ℤ) (k : ℕ) → k ≡ 0 → z *ℤ pos (10 ^ k) ≡ z
times_one z k e = ap (λ j. z *ℤ pos (10 ^ j)) e ∙ one_factor z

same_scale : (n there back : Number) (s : ℕ) → s ≡ n.scale → rescaled n s ≡ Ok there → rescaled there n.scale ≡ Ok back → back.mant ≡ n.mant
same_scale n there back s e h k =
    let a = in_range_gives (mant_at s n) s there (sym (rescaled_up n s (omega arith)) ∙ h) in
    let b = in_range_gives (mant_at n.scale there) n.scale back (sym (rescaled_up there n.scale (omega (arith, a.1))) ∙ k) in
    b.0 ∙ times_one there.mant (n.scale - there.scale) (omega (arith, a.1)) ∙ a.0 ∙ times_one n.mant (s - n.scale) (omega arith)

smaller_scale : (n there back : Number) (s : ℕ) → s < n.scale → rescaled n s ≡ Ok there → rescaled there n.scale ≡ Ok back → back.mant ≡ rounded n.mant (pos (10 ^ (n.scale - s))) *ℤ pos (10 ^ (n.scale - s))
smaller_scale n there back s l h k =
    let a = in_range_gives (rounded n.mant (pos (10 ^ (n.scale - s)))) s there (sym (rescaled_down n s l) ∙ h) in
    let b = in_range_gives (mant_at n.scale there) n.scale back (sym (rescaled_up there n.scale (omega (arith, a.1))) ∙ k) in
    b.0 ∙ (λ i. a.0 i *ℤ pos (10 ^ (n.scale - a.1 i)))

off_by : (back m r : ℤ) (u : ℕ) → back ≡ r → 2 * unsigned_abs (m -ℤ r) ≤ u → 2 * unsigned_abs (back -ℤ m) ≤ u
off_by back m r u e h = omega (arith, ints)

no_difference : (back m : ℤ) (u : ℕ) → back ≡ m → 2 * unsigned_abs (back -ℤ m) ≤ u
no_difference back m u e = omega (arith, ints)

pub casts : CastsBackNearby
casts n there back s l h k =
    ⊎_elim
    (λ e. no_difference back.mant n.mant (10 ^ (n.scale - s)) (same_scale n there back s e h k))
    (λ lt. let u = 10 ^ (n.scale - s) in
    let positive = ten_pos (n.scale - s) in
    let ne : pos u ≢ pos 0 = λ e. omega (arith, ints) in
    off_by back.mant n.mant (rounded n.mant (pos u) *ℤ pos u) u (smaller_scale n there back s lt h k) (rounds n.mant (pos u) ne).0)
    (eq-or-lt_of_le l)

negative_at : (z : ℤ) (k : ℕ) → neg_ℤ z *ℤ pos k ≡ neg_ℤ (z *ℤ pos k)
negative_at (pos n) k = neg_times n k
negative_at (negsuc n) k = ap (λ z. z) (sym (neg_ℤ-neg_ℤ (pos (suc n * k))))

chosen_gives : (t : Bool) (m : ℤ) (s : ℕ) (x : Number) → (if t then in_range m s else Err Overflow) ≡ Ok x → (x.mant ≡ m) × (x.scale ≡ s)
chosen_gives true m s x e = in_range_gives m s x e
chosen_gives false m s x e = cc

sum_gives : (a b x : Number) → sum_of a b ≡ Ok x → (x.mant ≡ mant_at (max a.scale b.scale) a +ℤ mant_at (max a.scale b.scale) b) × (x.scale ≡ max a.scale b.scale)
sum_gives a b x h =
    let s = max a.scale b.scale in
    chosen_gives (is_mantissa (mant_at s a) && is_mantissa (mant_at s b)) (mant_at s a +ℤ mant_at s b) s x h

difference_gives : (a b x : Number) → difference_of a b ≡ Ok x → (x.mant ≡ mant_at (max a.scale b.scale) a -ℤ mant_at (max a.scale b.scale) b) × (x.scale ≡ max a.scale b.scale)
difference_gives a b x h =
    let s = max a.scale b.scale in
    chosen_gives (is_mantissa (mant_at s a) && is_mantissa (mant_at s b)) (mant_at s a -ℤ mant_at s b) s x h

pub subtracts : SubtractsByNegation
subtracts a b minus x y hm hx hy =
    let m = in_range_gives (neg_ℤ b.mant) b.scale minus hm in
    let s = max a.scale b.scale in
    let negated : mant_at (max a.scale minus.scale) minus ≡ neg_ℤ (mant_at s b) = (λ i. m.0 i *ℤ pos (10 ^ (max a.scale (m.1 i) - m.1 i))) ∙ negative_at b.mant (10 ^ (s - b.scale)) in
    let left : mant_at (max a.scale minus.scale) a ≡ mant_at s a = λ i. mant_at (max a.scale (m.1 i)) a in
    let d = difference_gives a b x hx in
    let t = sum_gives a minus y hy in
    let mants : x.mant ≡ y.mant = d.0 ∙ sym (t.0 ∙ (λ i. left i +ℤ negated i)) in
    let scales : x.scale ≡ y.scale = d.1 ∙ sym (t.1 ∙ (λ i. max a.scale (m.1 i))) in
    λ i. record { mant = mants i; scale = scales i }

pub floors : FloorsBelow
floors n = below n.mant (10 ^ n.scale) (ten_pos n.scale)
  where
    below : (z : ℤ) (d : ℕ) → 0 < d → ((int_div_euclid z (pos d) *ℤ pos d) ≤ℤ z) × (z <ℤ (int_div_euclid z (pos d) *ℤ pos d +ℤ pos d))
    below (pos a) d p = let low = div-mul-le_self a d in let high = lt-div-mul-add {a = a} {b = d} p in (omega (arith, ints), omega (arith, ints))
    below (negsuc a) d p = let low = div-mul-le_self a d in let high = lt-div-mul-add {a = a} {b = d} p in (omega (arith, ints), omega (arith, ints))

pub orders : OrdersByWorth
orders a b ne = by (cmp_worth a b) (nat_cmp a.scale b.scale) ne
  where
    by : (o r : Ordering) → o ≢ Equal → ordering_then o r ≡ o
    by Less r h = refl
    by Equal r h = absurd (h refl)
    by Greater r h = refl
