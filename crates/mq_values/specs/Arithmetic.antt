-- Arithmetic of numbers: a fault is a test of range on the exact result.
use Rattle.std.specs.Prelude.{ℕ, suc, ◌+◌, ◌-◌, ◌*◌, ◌/◌, ◌^◌, max, min, nat_le, ℤ, pos, negsuc, neg_ℤ, ◌+ℤ◌, ◌-ℤ◌, ◌*ℤ◌, ◌&&◌, unsigned_abs, if◌then◌else◌, Result, Ok, Err}
use Rattle.std.specs.Int.{int_div_euclid}
use Rattle.std.specs.Ordering.{int_eq}
use Rattle.mq_values.specs.declared.limits.TheConstants.{MAX_SCALE, MIN_QUOTIENT_SCALE}
use Rattle.mq_values.specs.Number.{Number, is_mantissa, mant_at}
use Rattle.mq_values.specs.declared.faults.ValueFault.{ValueFault}
use Rattle.mq_values.specs.declared.faults.ValueFault.TheVariants.{Overflow, DivideByZero}

-- the number of this mantissa and scale, where the mantissa is in range
abbrev pub in_range : ℤ → ℕ → Result Number ValueFault
in_range m s = if is_mantissa m then Ok (record { mant = m; scale = s }) else Err Overflow

-- n / d to the nearest whole number, halves up
abbrev pub half_up : ℕ → ℕ → ℕ
half_up n d = (2 * n + d) / (2 * d)

-- z / d to the nearest whole number, halves away from zero
abbrev pub rounded : ℤ → ℤ → ℤ
rounded (pos n) (pos d) = pos (half_up n d)
rounded (pos n) (negsuc d) = neg_ℤ (pos (half_up n (suc d)))
rounded (negsuc n) (pos d) = neg_ℤ (pos (half_up (suc n) d))
rounded (negsuc n) (negsuc d) = pos (half_up (suc n) (suc d))

-- the cast to scale s
abbrev pub rescaled : Number → ℕ → Result Number ValueFault
rescaled n s = in_range (if nat_le n.scale s then mant_at s n else rounded n.mant (pos (10 ^ (n.scale - s)))) s

-- both mantissas are brought to the larger scale; these two and the result must lie in range
abbrev pub sum_of : Number → Number → Result Number ValueFault
sum_of a b =
    let s = max a.scale b.scale in
    if is_mantissa (mant_at s a) && is_mantissa (mant_at s b) then in_range (mant_at s a +ℤ mant_at s b) s else Err Overflow

abbrev pub difference_of : Number → Number → Result Number ValueFault
difference_of a b =
    let s = max a.scale b.scale in
    if is_mantissa (mant_at s a) && is_mantissa (mant_at s b) then in_range (mant_at s a -ℤ mant_at s b) s else Err Overflow

-- the exact product of the mantissas must lie in range, and is then rounded to the largest scale
abbrev pub product_of : Number → Number → Result Number ValueFault
product_of a b =
    let exact = a.mant *ℤ b.mant in
    let s = a.scale + b.scale in
    if is_mantissa exact then Ok (record { mant = rounded exact (pos (10 ^ (s - MAX_SCALE))); scale = min s MAX_SCALE }) else Err Overflow

-- the scale of a quotient
abbrev pub quotient_scale : ℕ → ℕ → ℕ
quotient_scale s t = max (max s t) MIN_QUOTIENT_SCALE

-- the dividend, with so many zeros that its quotient by the divisor's mantissa has that scale
abbrev pub dividend_of : Number → Number → ℤ
dividend_of a b = a.mant *ℤ pos (10 ^ (quotient_scale a.scale b.scale + b.scale - a.scale))

-- the dividend must lie in range, and so must the rounded quotient
abbrev pub quotient_of : Number → Number → Result Number ValueFault
quotient_of a b =
    if int_eq b.mant (pos 0) then Err DivideByZero
    else (if is_mantissa (dividend_of a b) then in_range (rounded (dividend_of a b) b.mant) (quotient_scale a.scale b.scale) else Err Overflow)

abbrev pub negation_of : Number → Result Number ValueFault
negation_of n = in_range (neg_ℤ n.mant) n.scale

abbrev pub magnitude_of : Number → Result Number ValueFault
magnitude_of n = in_range (pos (unsigned_abs n.mant)) n.scale

-- the greatest whole number that is not above n
abbrev pub floor_of : Number → Number
floor_of n = record { mant = int_div_euclid n.mant (pos (10 ^ n.scale)); scale = 0 }
