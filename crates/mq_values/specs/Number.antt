-- What a number is, what its range is, and how numbers are ordered.
use Rattle.std.specs.Prelude.{ℕ, zero, suc, ◌+◌, ◌-◌, ◌/◌, ◌%◌, ◌^◌, ℤ, pos, negsuc, neg_ℤ, ◌*ℤ◌, Bool, ◌&&◌, int_le, int_lt, unsigned_abs, if◌then◌else◌, Option, Some, None, List, [], ◌∷◌, ◌++◌, decimal}
use Rattle.std.specs.Ordering.{on, then_cmp, nat_cmp, int_cmp}
use Rattle.std.specs.declared.cmp.Ordering.{Ordering}
use Rattle.mq_values.specs.Bytes.{DIGIT_ZERO, MINUS, POINT}
use Rattle.mq_values.specs.declared.limits.TheConstants.{MAX_SCALE}

-- a mantissa and a scale: the number is worth mant / 10 ^ scale
pub record Number : Type 0 where
  pub mant : ℤ
  pub scale : ℕ

-- mantissas are kept in 128 bits: they lie below this number, and from its opposite on
abbrev pub MANTISSA_END : ℕ
MANTISSA_END = 2 ^ 127

abbrev pub is_mantissa : ℤ → Bool
is_mantissa z = int_le (neg_ℤ (pos MANTISSA_END)) z && int_lt z (pos MANTISSA_END)

-- a whole number, where it is in that range
abbrev pub fitting : ℤ → Option ℤ
fitting z = if is_mantissa z then Some z else None

-- the mantissa that this number has when it is brought to the larger scale s
abbrev pub mant_at : ℕ → Number → ℤ
mant_at s n = n.mant *ℤ pos (10 ^ (s - n.scale))

-- what numbers are worth is compared at the largest scale
abbrev pub cmp_worth : Number → Number → Ordering
cmp_worth = on (mant_at MAX_SCALE) int_cmp

-- the total order: by worth, and then by scale
abbrev pub cmp_number : Number → Number → Ordering
cmp_number = then_cmp cmp_worth (on (λ n. n.scale) nat_cmp)

-- k digits of n, with zeros in front
abbrev pub fixed_digits : ℕ → ℕ → List ℕ
fixed_digits zero n = []
fixed_digits (suc k) n = fixed_digits k (n / 10) ++ (DIGIT_ZERO + n % 10) ∷ []

-- the point and the digits behind it, of which a whole number has none
abbrev pub fraction_text : ℕ → ℕ → List ℕ
fraction_text zero n = []
fraction_text (suc k) n = POINT ∷ fixed_digits (suc k) n

abbrev pub sign_text : ℤ → List ℕ
sign_text (pos n) = []
sign_text (negsuc n) = MINUS ∷ []

-- the printed text: sign, whole part, point, and as many digits behind it as the scale
abbrev pub text_of_number : Number → List ℕ
text_of_number n =
    let size = unsigned_abs n.mant in
    let unit = 10 ^ n.scale in
    sign_text n.mant ++ decimal (size / unit) ++ fraction_text n.scale (size % unit)
