-- What arithmetic, printing and the order of numbers mean, said again in other words.
use Rattle.std.specs.Prelude.{◌≡◌, ◌≢◌, ℕ, ◌-◌, ◌*◌, ◌^◌, ◌<◌, ◌≤◌, ℤ, pos, ◌+ℤ◌, ◌-ℤ◌, ◌*ℤ◌, ◌<ℤ◌, ◌≤ℤ◌, unsigned_abs, IsTrue, Ok}
use Rattle.std.specs.declared.cmp.Ordering.TheVariants.{Equal}
use Rattle.mq_values.specs.Number.{Number, is_mantissa, cmp_worth, cmp_number, text_of_number}
use Rattle.mq_values.specs.Arithmetic.{rounded, rescaled, sum_of, difference_of, negation_of, floor_of}

-- no whole number is nearer to z / d than the rounded one, and of two that are as near it lies away from zero
abbrev pub RoundsToNearest : Type 0
RoundsToNearest =
    (z d : ℤ) → d ≢ pos 0 →
    (2 * unsigned_abs (z -ℤ rounded z d *ℤ d) ≤ unsigned_abs d)
    × (2 * unsigned_abs (z -ℤ rounded z d *ℤ d) ≡ unsigned_abs d → unsigned_abs z < unsigned_abs (rounded z d *ℤ d))

-- a cast to a smaller scale and back is off by at most half a unit of that scale
abbrev pub CastsBackNearby : Type 0
CastsBackNearby =
    (n there back : Number) (s : ℕ) → s ≤ n.scale → rescaled n s ≡ Ok there → rescaled there n.scale ≡ Ok back →
    2 * unsigned_abs (back.mant -ℤ n.mant) ≤ 10 ^ (n.scale - s)

-- to subtract is to add the number with the other sign, where neither faults
abbrev pub SubtractsByNegation : Type 0
SubtractsByNegation =
    (a b minus x y : Number) → negation_of b ≡ Ok minus → difference_of a b ≡ Ok x → sum_of a minus ≡ Ok y → x ≡ y

-- the floor is not above the number, and one more is
abbrev pub FloorsBelow : Type 0
FloorsBelow =
    (n : Number) →
    let unit = pos (10 ^ n.scale) in
    let whole = (floor_of n).mant in
    ((whole *ℤ unit) ≤ℤ n.mant) × (n.mant <ℤ (whole *ℤ unit +ℤ unit))

-- numbers of one scale that print alike are one
abbrev pub PrintsApart : Type 0
PrintsApart =
    (a b : Number) → IsTrue (is_mantissa a.mant) → IsTrue (is_mantissa b.mant) → a.scale ≡ b.scale →
    text_of_number a ≡ text_of_number b → a ≡ b

-- numbers that differ in worth stand in the total order as by worth
abbrev pub OrdersByWorth : Type 0
OrdersByWorth = (a b : Number) → cmp_worth a b ≢ Equal → cmp_number a b ≡ cmp_worth a b
