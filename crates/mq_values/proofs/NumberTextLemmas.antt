-- The text of a number is short, and has digits, a point and a sign alone.
use Rattle.std.proofs.Common.{◌≡◌, ℕ, zero, suc, ◌+◌, ◌/◌, ◌%◌, ◌^◌, ◌<◌, ◌≤◌, ℤ, pos, negsuc, Bool, true, false, ◌&&◌, List, [], ◌∷◌, ◌++◌, length, refl, ap, ◌∙◌, arith, neg_ℤ, int_le, int_lt, unsigned_abs, IsTrue, length-append}
use Rattle.std.specs.Prelude.{decimal, nat_le}
use Rattle.std.specs.List.{list_all}
use Rattle.std.specs.Str.{IsAscii}
use Rattle.std.proofs.lemmas.Int.{ints}
use Rattle.std.proofs.lemmas.Bool.Decides.{nat_tests}
use Rattle.std.proofs.lemmas.List.Folds.{list_all-append}
use Rattle.std.proofs.lemmas.Fmt.{decimal_by_steps_wide, length-decimal-le_wide}
use Rattle.std.proofs.lemmas.Str.Ascii.{IsAscii-nil, IsAscii-cons}
use Rattle.std.proofs.Math.Nat.{div-le_self}
use Rattle.mq_values.specs.Number.{Number, is_mantissa, fixed_digits, fraction_text, sign_text, text_of_number}
use Rattle.mq_values.specs.Text.{is_plain, is_text}

-- '-', '.' and the digits, which lie together
abbrev pub is_mark : ℕ → Bool
is_mark b = nat_le 45 b && nat_le b 57

abbrev pub AllMarks : List ℕ → Type 0
AllMarks bs = list_all is_mark bs ≡ true

pub both : (xs ys : List ℕ) → AllMarks xs → AllMarks ys → AllMarks (xs ++ ys)
both xs ys p q = list_all-append is_mark xs ys ∙ ap (λ b. b && list_all is_mark ys) p ∙ q

digit : (d : ℕ) → d < 10 → AllMarks ((48 + d) ∷ [])
digit d h = grind (arith, nat_tests)

pub marks-decimal : (n : ℕ) → n < 10 ^ 64 → AllMarks (decimal n)
marks-decimal = decimal_by_steps_wide (λ n ds. AllMarks ds) (λ n h. digit n h) (λ n ds h p. both ds ((48 + n % 10) ∷ []) p (digit (n % 10) (omega arith)))

pub marks-fixed : (k n : ℕ) → AllMarks (fixed_digits k n)
marks-fixed zero n = refl
marks-fixed (suc k) n = both (fixed_digits k (n / 10)) ((48 + n % 10) ∷ []) (marks-fixed k (n / 10)) (digit (n % 10) (omega arith))

pub length-fixed : (k n : ℕ) → length (fixed_digits k n) ≡ k
length-fixed zero n = refl
length-fixed (suc k) n = length-append (fixed_digits k (n / 10)) ((48 + n % 10) ∷ []) ∙ omega (arith, length-fixed k (n / 10))

pub marks-fraction : (k n : ℕ) → AllMarks (fraction_text k n)
marks-fraction zero n = refl
marks-fraction (suc k) n = marks-fixed (suc k) n

pub length-fraction-le : (k n : ℕ) → length (fraction_text k n) ≤ k + 1
length-fraction-le zero n = omega arith
length-fraction-le (suc k) n = omega (arith, length-fixed (suc k) n)

pub marks-sign : (z : ℤ) → AllMarks (sign_text z)
marks-sign (pos n) = refl
marks-sign (negsuc n) = refl

pub length-sign-le : (z : ℤ) → length (sign_text z) ≤ 1
length-sign-le (pos n) = omega arith
length-sign-le (negsuc n) = omega arith

pub marks-number : (n : Number) → unsigned_abs n.mant < 10 ^ 64 → AllMarks (text_of_number n)
marks-number n h =
    let size = unsigned_abs n.mant in
    let unit = 10 ^ n.scale in
    let whole : size / unit < 10 ^ 64 = omega (arith, div-le_self size unit) in
    let front : AllMarks (sign_text n.mant ++ decimal (size / unit)) = both (sign_text n.mant) (decimal (size / unit)) (marks-sign n.mant) (marks-decimal (size / unit) whole) in
    both (sign_text n.mant ++ decimal (size / unit)) (fraction_text n.scale (size % unit)) front (marks-fraction n.scale (size % unit))

pub length-number-le : (n : Number) → n.scale ≤ 12 → unsigned_abs n.mant < 10 ^ 64 → length (text_of_number n) ≤ 256
length-number-le n s h =
    let size = unsigned_abs n.mant in
    let unit = 10 ^ n.scale in
    let whole : size / unit < 10 ^ 64 = omega (arith, div-le_self size unit) in
    let d : length (decimal (size / unit)) ≤ 64 = length-decimal-le_wide 64 (size / unit) (omega arith) whole whole in
    simp length-append (omega (arith, length-sign-le n.mant, length-fraction-le n.scale (size % unit), d))

pub marks_plain : (bs : List ℕ) → AllMarks bs → list_all is_plain bs ≡ true
marks_plain [] p = refl
marks_plain (b ∷ bs) p = grind (arith, nat_tests, marks_plain bs)

pub text_is : (bs : List ℕ) → length bs ≤ 256 → list_all is_plain bs ≡ true → IsTrue (is_text bs)
text_is bs l p = rw p (grind (arith, nat_tests))

pub marks_ascii : (bs : List ℕ) → AllMarks bs → IsAscii bs
marks_ascii [] p = IsAscii-nil
marks_ascii (b ∷ bs) p = IsAscii-cons b bs (grind (arith, nat_tests)) (marks_ascii bs (grind (arith, nat_tests)))

-- where a mantissa lies
pub mantissa_small : (z : ℤ) → IsTrue (is_mantissa z) → unsigned_abs z < 10 ^ 64
mantissa_small z h = by (int_le (neg_ℤ (pos (2 ^ 127))) z) (int_lt z (pos (2 ^ 127))) refl refl h
  where
    by : (s t : Bool) → int_le (neg_ℤ (pos (2 ^ 127))) z ≡ s → int_lt z (pos (2 ^ 127)) ≡ t → IsTrue (s && t) → unsigned_abs z < 10 ^ 64
    by true true e f h = omega (arith, ints)
    by true false e f h = cc
    by false t e f h = cc

pub ascii-number : (n : Number) → IsTrue (is_mantissa n.mant) → IsAscii (text_of_number n)
ascii-number n m = marks_ascii (text_of_number n) (marks-number n (mantissa_small n.mant m))

pub is_text-number : (n : Number) → n.scale ≤ 12 → IsTrue (is_mantissa n.mant) → IsTrue (is_text (text_of_number n))
is_text-number n s m =
    let small = mantissa_small n.mant m in
    text_is (text_of_number n) (length-number-le n s small) (marks_plain (text_of_number n) (marks-number n small))
