-- What is spelled as a number, and what a day prints, is ASCII, and so it is UTF-8.
use Rattle.std.proofs.Common.{◌≡◌, ◌⊎◌, inl, inr, ℕ, zero, suc, ◌+◌, ◌-◌, ◌/◌, ◌%◌, ◌<◌, ◌≤◌, List, [], ◌∷◌, ◌++◌, drop, length, get_or, Bool, true, false, not, ◌&&◌, refl, sym, ap, subst, ◌∙◌, arith}
use Rattle.std.specs.Prelude.{◌==◌, IsUtf8, if◌then◌else◌}
use Rattle.std.specs.Char.{is_ascii_digit}
use Rattle.std.specs.Str.{IsAscii}
use Rattle.std.proofs.lemmas.Bool.{eqb-true}
use Rattle.std.proofs.lemmas.Bool.Decides.{nat_tests}
use Rattle.std.proofs.lemmas.List.{get_or-drop}
use Rattle.std.proofs.lemmas.List.Sums.{prefix_len_passes}
use Rattle.std.proofs.lemmas.Str.{IsAscii-append, IsUtf8-from_ascii}
use Rattle.std.proofs.lemmas.Str.Ascii.{IsAscii-nil, IsAscii-cons}
use Rattle.mq_values.specs.Bytes.{POINT}
use Rattle.mq_values.specs.Calendar.{date_text, day_of_month, month_of, text_of_day, year_of}
use Rattle.mq_values.specs.Number.{fixed_digits}
use Rattle.mq_lexer.specs.Numbers.{digits_len, fraction_len, is_number}

-- ---- digits
digit_low : (b : ℕ) → is_ascii_digit b ≡ true → b < 128
digit_low b h = grind (arith, nat_tests)

-- the digits from a place on
run_low : (z : List ℕ) (at k : ℕ) → k < digits_len z at → get_or z (at + k) 0 < 128
run_low z at k h =
    let d : is_ascii_digit (get_or (drop at z) k 0) ≡ true = prefix_len_passes is_ascii_digit (drop at z) k 0 h in
    digit_low (get_or z (at + k) 0) (subst (λ b. is_ascii_digit b ≡ true) (get_or-drop at z k 0) d)

-- ---- numbers
-- the point and the digits behind it
fraction_low : (z : List ℕ) (at k : ℕ) → k < fraction_len z at → get_or z (at + k) 0 < 128
unfolding fraction_len
fraction_low z at k h = by (get_or z at 0 == POINT) (not (digits_len z (at + 1) == 0)) refl h
  where
    n : ℕ
    n = digits_len z (at + 1)

    at_place : (j : ℕ) → get_or z at 0 ≡ POINT → j < n + 1 → get_or z (at + j) 0 < 128
    at_place zero e l = subst (λ b. b < 128) (sym (ap (λ i. get_or z i 0) (let p : at + 0 ≡ at = omega arith in p) ∙ e)) (omega arith)
    at_place (suc j) e l =
        let same : at + suc j ≡ at + 1 + j = omega arith in
        subst (λ i. get_or z i 0 < 128) (sym same) (run_low z (at + 1) j (omega arith))

    by : (a b : Bool) → (get_or z at 0 == POINT) ≡ a → k < (if a && b then n + 1 else 0) → get_or z (at + k) 0 < 128
    by true true e l = at_place k (eqb-true (get_or z at 0) POINT e) l
    by true false e l = absurd (omega arith)
    by false b e l = absurd (omega arith)

past_low : (z : List ℕ) (i : ℕ) → length z ≤ i → get_or z i 0 < 128
past_low [] i h = omega arith
past_low (b ∷ z) zero h = absurd (omega arith)
past_low (b ∷ z) (suc i) h = past_low z i (omega arith)

and_right : (a b : Bool) → (a && b) ≡ true → b ≡ true
and_right true b h = h
and_right false b h = absurd (cc)

before : (i n : ℕ) → (i < n) ⊎ (n ≤ i)
before i zero = inr (omega arith)
before zero (suc n) = inl (omega arith)
before (suc i) (suc n) = elim (before i n) [ inl l ↦ inl (omega arith) | inr l ↦ inr (omega arith) ]

pub number_is_ascii : (z : List ℕ) → is_number z ≡ true → IsAscii z
number_is_ascii z h i =
    let whole = digits_len z 0 in
    let fraction = fraction_len z whole in
    let end : whole + fraction ≡ length z = eqb-true (whole + fraction) (length z) (and_right (not (length z == 0)) (whole + fraction == length z) h) in
    elim (before i whole) [
      | inl l ↦
          let same : 0 + i ≡ i = omega arith in
          subst (λ j. get_or z j 0 < 128) same (run_low z 0 i l)
      | inr l ↦ elim (before i (length z)) [
        | inl m ↦
            let same : whole + (i - whole) ≡ i = omega arith in
            subst (λ j. get_or z j 0 < 128) same (fraction_low z whole (i - whole) (omega arith))
        | inr m ↦ past_low z i m
      ]
    ]

pub number_is_utf8 : (z : List ℕ) → is_number z ≡ true → IsUtf8 z
number_is_utf8 z h = IsUtf8-from_ascii z (number_is_ascii z h)

-- ---- days
ascii_fixed : (k n : ℕ) → IsAscii (fixed_digits k n)
ascii_fixed zero n = IsAscii-nil
ascii_fixed (suc k) n =
    IsAscii-append (fixed_digits k (n / 10)) ((48 + n % 10) ∷ []) (ascii_fixed k (n / 10)) (IsAscii-cons (48 + n % 10) [] (omega arith) IsAscii-nil)

ascii_behind : (xs ys : List ℕ) → IsAscii xs → IsAscii ys → IsAscii (xs ++ 45 ∷ ys)
ascii_behind xs ys a b = IsAscii-append xs (45 ∷ ys) a (IsAscii-cons 45 ys (omega arith) b)

ascii_date : (y m d : ℕ) → IsAscii (date_text y m d)
ascii_date y m d =
    ascii_behind (fixed_digits 4 y) (fixed_digits 2 m ++ 45 ∷ fixed_digits 2 d) (ascii_fixed 4 y)
    (ascii_behind (fixed_digits 2 m) (fixed_digits 2 d) (ascii_fixed 2 m) (ascii_fixed 2 d))

pub day_is_utf8 : (day : ℕ) → IsUtf8 (text_of_day day)
unfolding text_of_day
day_is_utf8 day = IsUtf8-from_ascii (date_text (year_of day) (month_of day) (day_of_month day)) (ascii_date (year_of day) (month_of day) (day_of_month day))
