-- Digits that are written from the last to the first.
use Rattle.std.proofs.Common.{◌≡◌, ℕ, suc, ◌+◌, ◌-◌, ◌/◌, ◌%◌, ◌^◌, ◌<◌, ◌≤◌, List, [], ◌∷◌, ◌++◌, length, drop, set, ℤ, pos, negsuc, false, refl, sym, ap, ◌∙◌, arith, append_assoc, length-append, int_le, true≢false, unsigned_abs}
use Rattle.std.proofs.lemmas.Fmt.{length-decimal-le_wide, decimal_step_wide}
use Rattle.std.proofs.lemmas.List.{drop-set}
use Rattle.std.specs.Fmt.{decimal}
use lib.Dec.{leb-zero}
use Rattle.mq_values.specs.Number.{Number, fixed_digits, fraction_text, sign_text, text_of_number}

-- the last of the digits goes in front of what is written
pub fixed_step : (k n : ℕ) (rest : List ℕ) → fixed_digits (suc k) n ++ rest ≡ fixed_digits k (n / 10) ++ ((48 + n % 10) ∷ rest)
fixed_step k n rest = append_assoc (fixed_digits k (n / 10)) ((48 + n % 10) ∷ []) rest

pub decimal_front : (n : ℕ) (rest : List ℕ) → 10 ≤ n → n < 2 ^ 128 → decimal n ++ rest ≡ decimal (n / 10) ++ ((48 + n % 10) ∷ rest)
decimal_front n rest lo hi = ap (λ ds. ds ++ rest) (decimal_step_wide n lo (omega arith)) ∙ append_assoc (decimal (n / 10)) ((48 + n % 10) ∷ []) rest

-- one byte in front of place at
pub drop-put : (buffer : List ℕ) (at v : ℕ) → 0 < at → at ≤ length buffer → drop (at - 1) (set buffer (at - 1) v) ≡ v ∷ drop at buffer
drop-put buffer at v p h = let e : at - 1 + 1 ≡ at = omega arith in drop-set buffer (at - 1) v (omega arith) ∙ ap (λ n. v ∷ drop n buffer) e

pub length_whole : (n : ℕ) → n ≤ 2 ^ 127 → length (decimal n) ≤ 39
length_whole n h = length-decimal-le_wide 39 n (omega arith) (omega arith) (omega arith)

pub length_step : (n : ℕ) → 10 ≤ n → n < 2 ^ 128 → length (decimal n) ≡ length (decimal (n / 10)) + 1
length_step n lo hi = ap length (decimal_step_wide n lo (omega arith)) ∙ length-append (decimal (n / 10)) ((48 + n % 10) ∷ [])

pub minus_text : (z : ℤ) → int_le (pos 0) z ≡ false → sign_text z ≡ 45 ∷ []
minus_text (pos n) e = absurd (true≢false (sym (leb-zero n) ∙ e))
minus_text (negsuc n) e = refl

pub negative_text : (n : Number) (size unit scale : ℕ) (whole tail : List ℕ) → size ≡ unsigned_abs n.mant → unit ≡ 10 ^ n.scale → scale ≡ n.scale → int_le (pos 0) n.mant ≡ false → tail ≡ fraction_text scale (size % unit) → whole ≡ decimal (size / unit) ++ tail → 45 ∷ whole ≡ text_of_number n
negative_text n size unit scale whole tail hs hu hn neg ht hw =
    let t : tail ≡ fraction_text n.scale (unsigned_abs n.mant % 10 ^ n.scale) = ht ∙ (λ i. fraction_text (hn i) (hs i % hu i)) in
    rw (minus_text n.mant neg) (ap (λ xs. 45 ∷ xs) hw ∙ (λ i. 45 ∷ (decimal (hs i / hu i) ++ t i)))
