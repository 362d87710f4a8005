-- Dates of the calendar and ordinals are one to one.
use Rattle.std.proofs.Common.{◌≡◌, ℕ, zero, suc, ◌+◌, ◌-◌, ◌*◌, ◌/◌, ◌<◌, ◌≤◌, Bool, true, false, ◌&&◌, ◌||◌, IsTrue, length, refl, sym, ap, subst, ◌∙◌, arith, nat_lt}
use Rattle.std.specs.Prelude.{Some, None, ◌==◌, if◌then◌else◌, nat_le}
use Rattle.std.specs.List.{range_with_len, filter}
use Rattle.std.proofs.lemmas.Bool.Decides.{nat_tests}
use Rattle.mq_values.specs.Calendar.{is_leap, month_length, days_before_year, days_before_month, last_begun, is_date, is_ordinal, ordinal_of, date_of, year_of, month_of, day_of_month}
use Rattle.mq_values.specs.declared.limits.TheConstants.{MAX_YEAR, MONTHS}

-- 1 for a leap year, and else 0
abbrev pub leap_day : ℕ → ℕ
leap_day year = if is_leap year then 1 else 0

-- each year begins after the days of the year before
pub next_year : (y : ℕ) → 1 ≤ y → days_before_year (suc y) ≡ days_before_year y + 365 + leap_day y
next_year y h = grind (arith, nat_tests)

pub years_rise : (y z : ℕ) → y ≤ z → days_before_year y ≤ days_before_year z
years_rise y z h = omega arith

-- the days before a month of a year, and its own, by whether the year is a leap year
abbrev pub first_in : Bool → ℕ → ℕ
first_in leap month = let even = (367 * month - 362) / 12 in if nat_le month 2 then even else (if leap then even - 1 else even - 2)

abbrev length_in : Bool → ℕ → ℕ
length_in leap month = if month == 2 then (if leap then 29 else 28) else (if (month == 4) || (month == 6) || (month == 9) || (month == 11) then 30 else 31)

next_in : (leap : Bool) (m : ℕ) → 1 ≤ m → m ≤ 12 → first_in leap (suc m) ≡ first_in leap m + length_in leap m
next_in leap m low high = grind (arith, nat_tests)

rise_in : (leap : Bool) (m n : ℕ) → 1 ≤ m → m ≤ n → first_in leap m ≤ first_in leap n
rise_in leap m n low h = grind (arith, nat_tests)

end_in : (leap : Bool) → first_in leap 13 ≡ 365 + (if leap then 1 else 0)
end_in true = refl
end_in false = refl

-- each month begins after the days of the month before
pub next_month : (y m : ℕ) → 1 ≤ m → m ≤ 12 → days_before_month y (suc m) ≡ days_before_month y m + month_length y m
next_month y = next_in (is_leap y)

short_in : (leap : Bool) (m : ℕ) → length_in leap m ≤ 31
short_in leap m = grind (arith, nat_tests)

pub length_short : (y m : ℕ) → month_length y m ≤ 31
length_short y = short_in (is_leap y)

pub months_rise : (y m n : ℕ) → 1 ≤ m → m ≤ n → days_before_month y m ≤ days_before_month y n
months_rise y = rise_in (is_leap y)

-- and a thirteenth would begin with the next year
pub year_end : (y : ℕ) → days_before_month y 13 ≡ 365 + leap_day y
year_end y = end_in (is_leap y)

-- of numbers in a row those that pass a test, where the first ones pass and the others do not
none_pass : (p : ℕ → Bool) (i n : ℕ) → ((k : ℕ) → i ≤ k → p k ≡ false) → length (filter p (range_with_len i n)) ≡ 0
none_pass p i zero h = refl
none_pass p i (suc n) h = rw (h i (omega arith)) (none_pass p (i + 1) n (λ k l. h k (omega arith)))

first_pass : (p : ℕ → Bool) (i n m : ℕ) → m ≤ n → ((k : ℕ) → i ≤ k → k < i + m → p k ≡ true) → ((k : ℕ) → i + m ≤ k → p k ≡ false)
    → length (filter p (range_with_len i n)) ≡ m
first_pass p i n zero l pass fail = none_pass p i n (λ k h. fail k (omega arith))
first_pass p i zero (suc m) l pass fail = absurd (omega arith)
first_pass p i (suc n) (suc m) l pass fail =
    rw (pass i (omega arith) (omega arith))
    (ap suc (first_pass p (i + 1) n m (omega arith) (λ k a b. pass k (omega arith) (omega arith)) (λ k a. fail k (omega arith))))

-- the last one that begins on a day or before it
pub last_begun_is : (n : ℕ) (f : ℕ → ℕ) (day m : ℕ) → m ≤ n → ((k : ℕ) → 1 ≤ k → k ≤ m → f k < day) → ((k : ℕ) → m < k → day ≤ f k)
    → last_begun n f day ≡ m
unfolding last_begun
last_begun_is n f day m l before after =
    first_pass (λ k. nat_lt (f k) day) 1 n m l
    (λ k a b. let h : f k < day = before k a (omega arith) in grind (arith, nat_tests))
    (λ k a. let h : day ≤ f k = after k (omega arith) in grind (arith, nat_tests))

-- there is one, where the first of all does and what follows the last of all does not
abbrev IsLastBegun : (ℕ → ℕ) → ℕ → ℕ → ℕ → Type 0
IsLastBegun f day n k = (1 ≤ k) × (k ≤ n) × (f k < day) × (day ≤ f (suc k))

last_begun_there_is : (f : ℕ → ℕ) (day n : ℕ) → f 1 < day → day ≤ f (suc n) → (k : ℕ) × IsLastBegun f day n k
last_begun_there_is f day zero first last = absurd (omega arith)
last_begun_there_is f day (suc n) first last = by (last_begun_there_is f day n first) (nat_lt (f (suc n)) day) refl
  where
    by : (day ≤ f (suc n) → (k : ℕ) × IsLastBegun f day n k) → (b : Bool) → nat_lt (f (suc n)) day ≡ b → (k : ℕ) × IsLastBegun f day (suc n) k
    by earlier true e = let lt : f (suc n) < day = grind (arith, nat_tests) in (suc n, (omega arith, omega arith, lt, last))
    by earlier false e =
        let found = earlier (grind (arith, nat_tests)) in
        (found.0, (found.1.0, omega arith, found.1.2, found.1.3))

-- what `is_date` tests
pub record Dated (y m d : ℕ) : Type 0 where
  pub year_low : 1 ≤ y
  pub year_high : y ≤ 9999
  pub month_low : 1 ≤ m
  pub month_high : m ≤ 12
  pub day_low : 1 ≤ d
  pub day_high : d ≤ month_length y m

tests : (y m d l : ℕ) → IsTrue (nat_le 1 y && nat_le y 9999 && nat_le 1 m && nat_le m 12 && nat_le 1 d && nat_le d l) → (1 ≤ y) × (y ≤ 9999) × (1 ≤ m) × (m ≤ 12) × (1 ≤ d) × (d ≤ l)
tests y m d l h = grind (arith, nat_tests)

tested : (y m d l : ℕ) → 1 ≤ y → y ≤ 9999 → 1 ≤ m → m ≤ 12 → 1 ≤ d → d ≤ l → IsTrue (nat_le 1 y && nat_le y 9999 && nat_le 1 m && nat_le m 12 && nat_le 1 d && nat_le d l)
tested y m d l a b e f g h = grind (arith, nat_tests)

pub dated : (y m d : ℕ) → IsTrue (is_date y m d) → Dated y m d
dated y m d h =
    let t = tests y m d (month_length y m) h in
    record { year_low = t.0; year_high = t.1; month_low = t.2; month_high = t.3; day_low = t.4; day_high = t.5 }

pub is_date_of : (y m d : ℕ) → Dated y m d → IsTrue (is_date y m d)
is_date_of y m d t = tested y m d (month_length y m) t.year_low t.year_high t.month_low t.month_high t.day_low t.day_high

-- a date's place in its year
abbrev pub in_year : ℕ → ℕ → ℕ → ℕ
in_year y m d = days_before_month y m + d

in_month : (y m d : ℕ) → Dated y m d → in_year y m d ≤ days_before_month y (suc m)
in_month y m d t = rw (next_month y m t.month_low t.month_high) (omega arith)

-- a date lies behind the first of its year and of its month, and before that of the next ones
in_year_high : (y m d : ℕ) → Dated y m d → ordinal_of y m d ≤ days_before_year (suc y)
in_year_high y m d t =
    rw (next_year y t.year_low)
    (omega (arith, in_month y m d t, months_rise y (suc m) 13 (omega arith) (omega arith), year_end y))

-- the year of a date
pub year_is : (y m d : ℕ) → Dated y m d → year_of (ordinal_of y m d) ≡ y
year_is y m d t =
    last_begun_is MAX_YEAR days_before_year (ordinal_of y m d) y t.year_high
    (λ k low high. omega (arith, years_rise k y high))
    (λ k h. omega (arith, in_year_high y m d t, years_rise (suc y) k h))

-- its month, where the year is known, and its day, where the month is too
abbrev month_within : ℕ → ℕ → ℕ
month_within y o = last_begun MONTHS (days_before_month y) (o - days_before_year y)

month_within_is : (y m d : ℕ) → Dated y m d → month_within y (ordinal_of y m d) ≡ m
month_within_is y m d t =
    let rest : ordinal_of y m d - days_before_year y ≡ in_year y m d = omega arith in
    ap (last_begun MONTHS (days_before_month y)) rest
    ∙ last_begun_is MONTHS (days_before_month y) (in_year y m d) m t.month_high
    (λ k low high. omega (arith, months_rise y k m low high, t.day_low))
    (λ k h. omega (arith, in_month y m d t, months_rise y (suc m) k (omega arith) h))

pub month_is : (y m d : ℕ) → Dated y m d → month_of (ordinal_of y m d) ≡ m
month_is y m d t = ap (λ k. month_within k (ordinal_of y m d)) (year_is y m d t) ∙ month_within_is y m d t

pub day_is : (y m d : ℕ) → Dated y m d → day_of_month (ordinal_of y m d) ≡ d
day_is y m d t =
    let parts : ordinal_of (year_of (ordinal_of y m d)) (month_of (ordinal_of y m d)) 0 ≡ ordinal_of y m 0 = (λ i. ordinal_of (year_is y m d t i) (month_is y m d t i) 0) in
    ap (λ k. ordinal_of y m d - k) parts ∙ omega arith

-- each ordinal is that of a date
ordinal_tests : (o n : ℕ) → IsTrue (nat_le 1 o && nat_le o n) → (1 ≤ o) × (o ≤ n)
ordinal_tests o n h = grind (arith, nat_tests)

-- a day of a year, as one of a month
month_there_is : (y rest : ℕ) → 1 ≤ y → y ≤ 9999 → 1 ≤ rest → rest ≤ days_before_month y 13 → (m : ℕ) × (d : ℕ) × Dated y m d × (in_year y m d ≡ rest)
month_there_is y rest low high first last =
    let found = last_begun_there_is (days_before_month y) rest 12 first last in
    let m = found.0 in
    let d = rest - days_before_month y m in
    let within : d ≤ month_length y m = omega (arith, found.1.3, next_month y m found.1.0 found.1.1) in (
      m,
      d,
      record { year_low = low; year_high = high; month_low = found.1.0; month_high = found.1.1; day_low = omega (arith, found.1.2); day_high = within },
      omega (arith, found.1.2),
    )

pub date_there_is : (o : ℕ) → IsTrue (is_ordinal o) → (y : ℕ) × (m : ℕ) × (d : ℕ) × Dated y m d × (ordinal_of y m d ≡ o)
date_there_is o h =
    let range : (1 ≤ o) × (o ≤ 3652059) = ordinal_tests o 3652059 h in
    let year = last_begun_there_is days_before_year o 9999 (omega arith) (omega arith) in
    let y = year.0 in
    let last : o - days_before_year y ≤ days_before_month y 13 = omega (arith, year.1.3, next_year y year.1.0, year_end y) in
    let found = month_there_is y (o - days_before_year y) year.1.0 year.1.1 (omega (arith, year.1.2)) last in
    (y, found.0, found.1, found.2, omega (arith, found.3, year.1.2))

-- that of a date lies in the range
pub ordinal_low : (y m d : ℕ) → Dated y m d → 1 ≤ ordinal_of y m d
ordinal_low y m d t = omega (arith, t.day_low)

pub ordinal_high : (y m d : ℕ) → Dated y m d → ordinal_of y m d ≤ 3652059
ordinal_high y m d t = omega (arith, in_year_high y m d t, years_rise (suc y) 10000 (omega (arith, t.year_high)))

range_tested : (o n : ℕ) → 1 ≤ o → o ≤ n → IsTrue (nat_le 1 o && nat_le o n)
range_tested o n low high = grind (arith, nat_tests)

pub is_ordinal_of : (y m d : ℕ) → Dated y m d → IsTrue (is_ordinal (ordinal_of y m d))
is_ordinal_of y m d t = range_tested (ordinal_of y m d) 3652059 (ordinal_low y m d t) (ordinal_high y m d t)

-- the year, the month and the day of the month of an ordinal make it up
pub record HasParts (o y m d : ℕ) : Type 0 where
  pub date : Dated y m d
  pub ordinal : ordinal_of y m d ≡ o
  pub year : year_of o ≡ y
  pub month : month_of o ≡ m
  pub day : day_of_month o ≡ d

pub date_has_parts : (y m d : ℕ) → Dated y m d → HasParts (ordinal_of y m d) y m d
date_has_parts y m d t = record { date = t; ordinal = refl; year = year_is y m d t; month = month_is y m d t; day = day_is y m d t }

pub parts_there_are : (o : ℕ) → IsTrue (is_ordinal o) → (y : ℕ) × (m : ℕ) × (d : ℕ) × HasParts o y m d
parts_there_are o h =
    let found = date_there_is o h in
    (found.0, found.1, found.2, subst (λ o. HasParts o found.0 found.1 found.2) found.4 (date_has_parts found.0 found.1 found.2 found.3))

pub parts : (o : ℕ) → IsTrue (is_ordinal o) → HasParts o (year_of o) (month_of o) (day_of_month o)
parts o h =
    let found = parts_there_are o h in
    let p = found.3 in
    subst (λ y. HasParts o y (month_of o) (day_of_month o)) (sym p.year)
    (subst (λ m. HasParts o found.0 m (day_of_month o)) (sym p.month)
    (subst (λ d. HasParts o found.0 found.1 d) (sym p.day) p))

pub date_of_is : (y m d : ℕ) → Dated y m d → date_of y m d ≡ Some (ordinal_of y m d)
date_of_is y m d t = ap (λ b. if b then Some (ordinal_of y m d) else None) (is_date_of y m d t)

-- a later date has a greater ordinal
pub later_year : (y m d k n e : ℕ) → IsTrue (is_date y m d) → IsTrue (is_date k n e) → y < k → ordinal_of y m d < ordinal_of k n e
later_year y m d k n e h later lt =
    let t = dated y m d h in
    let u = dated k n e later in
    omega (arith, in_year_high y m d t, years_rise (suc y) k lt, u.day_low)

pub later_month : (y m d n e : ℕ) → IsTrue (is_date y m d) → IsTrue (is_date y n e) → m < n → ordinal_of y m d < ordinal_of y n e
later_month y m d n e h later lt =
    let t = dated y m d h in
    let u = dated y n e later in
    omega (arith, in_month y m d t, months_rise y (suc m) n (omega arith) lt, u.day_low)
