-- The printed text of a day has ten bytes, and is a text.
use Rattle.std.proofs.Common.{◌≡◌, ℕ, ◌+◌, ◌/◌, ◌%◌, ◌++◌, [], ◌∷◌, length, refl, arith, IsTrue}
use Rattle.std.specs.Str.{IsAscii}
use Rattle.mq_values.specs.Number.{fixed_digits}
use Rattle.mq_values.specs.Text.{is_text}
use Rattle.mq_values.specs.Calendar.{year_of, month_of, day_of_month, date_text, text_of_day}
use Rattle.mq_values.proofs.NumberTextLemmas.{AllMarks, both, marks-fixed, marks_ascii, marks_plain, text_is}

marks-date : (y m d : ℕ) → AllMarks (date_text y m d)
marks-date y m d =
    both (fixed_digits 4 y) (45 ∷ (fixed_digits 2 m ++ 45 ∷ fixed_digits 2 d)) (marks-fixed 4 y)
    (both (fixed_digits 2 m) (45 ∷ fixed_digits 2 d) (marks-fixed 2 m) (marks-fixed 2 d))

date_text_is : (y m d : ℕ) → IsTrue (is_text (date_text y m d))
date_text_is y m d = text_is (date_text y m d) (omega arith) (marks_plain (date_text y m d) (marks-date y m d))

-- the printed text of a day is a text value
pub is_text-day : (o : ℕ) → IsTrue (is_text (text_of_day o))
unfolding text_of_day
is_text-day o = date_text_is (year_of o) (month_of o) (day_of_month o)

pub marks-day : (o : ℕ) → AllMarks (text_of_day o)
unfolding text_of_day
marks-day o = marks-date (year_of o) (month_of o) (day_of_month o)

pub length-day : (o : ℕ) → length (text_of_day o) ≡ 10
unfolding text_of_day
length-day o = refl

pub ascii-day : (o : ℕ) → IsAscii (text_of_day o)
ascii-day o = marks_ascii (text_of_day o) (marks-day o)

-- the digits of a date one by one
pub digits_are : (y m d a b c e f g h k : ℕ)
    → a ≡ 48 + y / 1000 % 10 → b ≡ 48 + y / 100 % 10 → c ≡ 48 + y / 10 % 10 → e ≡ 48 + y % 10
    → f ≡ 48 + m / 10 % 10 → g ≡ 48 + m % 10 → h ≡ 48 + d / 10 % 10 → k ≡ 48 + d % 10
    → a ∷ b ∷ c ∷ e ∷ 45 ∷ f ∷ g ∷ 45 ∷ h ∷ k ∷ [] ≡ date_text y m d
digits_are y m d a b c e f g h k pa pb pc pe pf pg ph pk =
    let qa : a ≡ 48 + y / 10 / 10 / 10 % 10 = omega arith in
    let qb : b ≡ 48 + y / 10 / 10 % 10 = omega arith in
    λ i. qa i ∷ qb i ∷ pc i ∷ pe i ∷ 45 ∷ pf i ∷ pg i ∷ 45 ∷ ph i ∷ pk i ∷ []
