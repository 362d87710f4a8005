-- The number that digits make.
use Rattle.std.proofs.Common.{◌≡◌, ℕ, ◌+◌, ◌-◌, ◌*◌, ◌<◌, ◌≤◌, true, [], ◌∷◌, length, get_or, refl, arith}
use Rattle.std.specs.Char.{is_ascii_digit}
use Rattle.std.specs.List.{fold}
use Rattle.mq_values.specs.Bytes.{DIGIT_ZERO}
use Rattle.mq_lexer.specs.Fronts.{Text}
use Rattle.mq_lexer.specs.Numbers.{with_digit}

with_digit_grows : (n b : ℕ) → n ≤ with_digit n b
with_digit_grows n b = grind arith

-- more digits make no smaller number
fold_grows : (n : ℕ) (z : Text) → n ≤ fold with_digit n z
fold_grows n [] = omega arith
fold_grows n (b ∷ z) = omega (arith, with_digit_grows n b, fold_grows (with_digit n b) z)

-- a digit more makes the number too great
pub digit_above : (v limit : ℕ) (z : Text) → 1 ≤ length z → is_ascii_digit (get_or z 0 0) ≡ true
    → limit < v * 10 + (get_or z 0 0 - DIGIT_ZERO) → limit < fold with_digit v z
digit_above v limit [] l d h = absurd (omega arith)
digit_above v limit (b ∷ z) l d h =
    let e : with_digit v b ≡ v * 10 + (b - DIGIT_ZERO) = rw d refl in
    let g = fold_grows (with_digit v b) z in
    omega arith
