-- A signed integer of 128 bits in two words.
use Rattle.std.specs.Prelude.{◌≡◌, ℕ, ℤ, ◌+◌, ◌*◌, ◌/◌, ◌%◌, ◌^◌, ◌<◌, FitsSigned}
use Rattle.std.specs.Int.{w128, cast_signed, cast_unsigned}
use Rattle.std.proofs.Common.{ap, ◌∙◌, arith}
use Rattle.std.proofs.Math.Nat.{div-add-mod}
use Rattle.std.proofs.lemmas.Nat.{div-mul-add, mod-mul-add}
use Rattle.std.proofs.lemmas.Int.{of_z-to_z, to_z-of_z}

-- the integer of two words
abbrev pub joined : ℕ → ℕ → ℤ
joined high low = cast_signed w128 (high * 2 ^ 64 + low)

-- the two words of an integer
abbrev pub high_of : ℤ → ℕ
high_of z = cast_unsigned w128 z / 2 ^ 64

abbrev pub low_of : ℤ → ℕ
low_of z = cast_unsigned w128 z % 2 ^ 64

-- words are those of the integer that they make
pub high_of_joined : (high low : ℕ) → high < 2 ^ 64 → low < 2 ^ 64 → high_of (joined high low) ≡ high
high_of_joined high low h l =
    ap (λ n. n / 2 ^ 64) (of_z-to_z w128 (high * 2 ^ 64 + low) (omega (arith, h, l))) ∙ div-mul-add high (2 ^ 64) low l

pub low_of_joined : (high low : ℕ) → high < 2 ^ 64 → low < 2 ^ 64 → low_of (joined high low) ≡ low
low_of_joined high low h l =
    ap (λ n. n % 2 ^ 64) (of_z-to_z w128 (high * 2 ^ 64 + low) (omega (arith, h, l))) ∙ mod-mul-add high (2 ^ 64) low l

-- an integer is that of its words
pub joined_words : (z : ℤ) → FitsSigned w128 z → joined (high_of z) (low_of z) ≡ z
joined_words z f =
    let n = cast_unsigned w128 z in
    ap (cast_signed w128) (ap (λ m. m + n % 2 ^ 64) (omega arith) ∙ div-add-mod n (2 ^ 64)) ∙ to_z-of_z w128 z f
