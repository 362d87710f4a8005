-- Different days print differently.
use Rattle.std.proofs.Common.{◌≡◌, ℕ, ◌^◌, ◌<◌, ◌≤◌, ◌++◌, ◌∷◌, refl, sym, ◌∙◌, arith, IsTrue}
use Rattle.mq_values.specs.Calendar.{is_ordinal, ordinal_of, year_of, month_of, day_of_month, date_text, text_of_day}
use Rattle.mq_values.specs.CalendarLemmas.{Dated, length_short, parts}
use Rattle.mq_values.specs.DigitLaws.{fixed_apart, same_ends}
use Rattle.mq_values.specs.Number.{fixed_digits}

-- numbers of so many digits
pub record Short (y m d : ℕ) : Type 0 where
  pub year : y < 10 ^ 4
  pub month : m < 10 ^ 2
  pub day : d < 10 ^ 2

pub dates_short : (y m d : ℕ) → Dated y m d → Short y m d
dates_short y m d t = record { year = omega (arith, t.year_high); month = omega (arith, t.month_high); day = omega (arith, t.day_high, length_short y m) }

-- print apart
pub record AreSame (y m d k n e : ℕ) : Type 0 where
  pub year : y ≡ k
  pub month : m ≡ n
  pub day : d ≡ e

pub texts_tell : (y m d k n e : ℕ) → Short y m d → Short k n e → date_text y m d ≡ date_text k n e → AreSame y m d k n e
texts_tell y m d k n e t u h =
    let front = same_ends (fixed_digits 4 y) (fixed_digits 4 k) (45 ∷ (fixed_digits 2 m ++ 45 ∷ fixed_digits 2 d)) (45 ∷ (fixed_digits 2 n ++ 45 ∷ fixed_digits 2 e)) refl h in
    let rest : fixed_digits 2 m ++ 45 ∷ fixed_digits 2 d ≡ fixed_digits 2 n ++ 45 ∷ fixed_digits 2 e = cc in
    let middle = same_ends (fixed_digits 2 m) (fixed_digits 2 n) (45 ∷ fixed_digits 2 d) (45 ∷ fixed_digits 2 e) refl rest in
    let back : fixed_digits 2 d ≡ fixed_digits 2 e = cc in
    record {
      year = fixed_apart 4 y k t.year u.year front.0;
      month = fixed_apart 2 m n t.month u.month middle.0;
      day = fixed_apart 2 d e t.day u.day back;
    }

-- two days that print alike are one
pub days_print_apart : (a b : ℕ) → IsTrue (is_ordinal a) → IsTrue (is_ordinal b) → text_of_day a ≡ text_of_day b → a ≡ b
unfolding text_of_day
days_print_apart a b h k e =
    let p = parts a h in
    let q = parts b k in
    let same = texts_tell (year_of a) (month_of a) (day_of_month a) (year_of b) (month_of b) (day_of_month b) (dates_short _ _ _ p.date) (dates_short _ _ _ q.date) e in
    sym p.ordinal ∙ (λ i. ordinal_of (same.year i) (same.month i) (same.day i)) ∙ q.ordinal
