-- Numbers: digits; or digits, a point, digits; or a point, digits.
use Rattle.std.specs.Prelude.{ℕ, ◌+◌, ◌-◌, ◌*◌, Bool, not, ◌&&◌, if◌then◌else◌, ◌==◌, nat_le, pos}
use Rattle.std.specs.Prelude.{[], ◌∷◌, length, take, drop, slice_index, Option, Some, None}
use Rattle.std.specs.Char.{is_ascii_digit}
use Rattle.std.specs.List.{prefix_len, fold}
use Rattle.mq_values.specs.Bytes.{DIGIT_ZERO, POINT}
use Rattle.mq_values.specs.declared.limits.TheConstants.{MAX_MANTISSA, MAX_SCALE}
use Rattle.mq_values.specs.Number.{Number}
use Rattle.mq_lexer.specs.declared.sorts.Sort.TheVariants as sort
use Rattle.mq_lexer.specs.declared.sorts.Front.{Front}
use Rattle.mq_lexer.specs.Fronts.{Text, a_token_if}

abbrev pub digits_len : Text → ℕ → ℕ
digits_len z at = prefix_len is_ascii_digit (drop at z)

-- a point with the digits behind it
unfoldable pub fraction_len : Text → ℕ → ℕ
fraction_len z at = let n = digits_len z (at + 1) in if slice_index z at == POINT && not (n == 0) then n + 1 else 0

-- the number that digits make, where a point counts nothing
abbrev pub with_digit : ℕ → ℕ → ℕ
with_digit n b = if is_ascii_digit b then n * 10 + (b - DIGIT_ZERO) else n

abbrev pub is_small : Text → Bool
is_small z = nat_le (fold with_digit 0 z) MAX_MANTISSA

-- few enough digits behind the point; the fraction has the point too
unfoldable pub number : Text → Front
number z =
    let whole = digits_len z 0 in
    let fraction = fraction_len z whole in
    a_token_if (nat_le fraction (MAX_SCALE + 1) && is_small (take (whole + fraction) z)) sort.Number (whole + fraction)

-- the whole text is spelled as a number, whatever its limits
abbrev pub is_number : Text → Bool
is_number z = let whole = digits_len z 0 in not (length z == 0) && whole + fraction_len z whole == length z

-- how many digits stand behind the point
abbrev pub places : Text → ℕ
places [] = 0
places (b ∷ z) = if b == POINT then length z else places z

-- a number's digits are its mantissa, those behind the point its scale
abbrev pub number_of : Text → Option Number
number_of z =
    if nat_le (places z) MAX_SCALE && is_small z
    then Some (record { mant = pos (fold with_digit 0 z); scale = places z })
    else None
