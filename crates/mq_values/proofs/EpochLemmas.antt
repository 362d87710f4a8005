-- The ordinal of a date and its day number in `jiff` differ by a constant.
use Rattle.std.proofs.Common.{◌≡◌, ℕ, suc, ◌+◌, ◌-◌, ◌^◌, ◌<◌, ◌≤◌, Bool, inl, inr, refl, sym, ap, subst, ◌∙◌, arith, IsTrue, ℤ, pos, ◌+ℤ◌, to_z, of_z, w8}
use Rattle.std.specs.Int.{Width, w16}
use Rattle.std.proofs.lemmas.Int.{to_z_pos}
use Rattle.std.proofs.lemmas.Bool.{cases_lt}
use Rattle.std.proofs.lemmas.Bool.Decides.{nat_tests}
use Rattle.std.specs.Prelude.{if◌then◌else◌}
use mir.Val.{hbits}
use Rattle.jiff_core.specs.declared.civil.date.Date.{Date}
use Rattle.jiff_core.specs.Calendar.{day_count, days_from_civil, days_in_month, IsYear}
use Rattle.jiff_core.specs.Date.{epoch_day}
use Rattle.jiff_core.specs.March.{march_days, march_months}
use Rattle.jiff_core.proofs.MarchLemmas.{leap_day, leap_day-shift, march_days-suc, day_count-early, day_count-late}
use Rattle.jiff_core.proofs.CalendarLemmas.{days_from_civil-day_count}
use Rattle.jiff_core.proofs.DateLemmas.{epoch_day_injective}
use Rattle.jiff_core.proofs.SignedLemmas.{back_small, signed_arith}
use Rattle.mq_values.specs.Calendar.{is_leap, days_before_year, month_length, is_ordinal, ordinal_of, year_of, month_of, day_of_month}
use Rattle.mq_values.specs.CalendarLemmas.{Dated, first_in, length_short, parts}

-- the years from -9999 to 0 have 3,652,425 days; `jiff` counts by years that begin in March, from the year -10000
years_agree : (y : ℕ) → 1 ≤ y → march_days (y + 9999) ≡ days_before_year y + 3652425
years_agree y h = omega arith

-- and so with the months before March, and with those from March on
early_in : (leap : Bool) (m : ℕ) → 1 ≤ m → m ≤ 2 → march_months (m + 12) ≡ first_in leap m + 306
early_in leap m low high = grind (arith, nat_tests)

late_in : (leap : Bool) (m : ℕ) → 3 ≤ m → m ≤ 12 → march_months m + 59 + (if leap then 1 else 0) ≡ first_in leap m
late_in leap m low high = grind (arith, nat_tests)

count_early : (y m d : ℕ) → 1 ≤ y → 1 ≤ m → m ≤ 2 → 1 ≤ d → day_count (pos y) m d ≡ ordinal_of y m d + 3652790
count_early y m d year low high day =
    omega (arith, years_agree y year, early_in (is_leap y) m low high, day_count-early (pos y) (y + 9999) m d (ap pos (omega arith)) low high day)

count_late : (y m d : ℕ) → 1 ≤ y → 3 ≤ m → m ≤ 12 → 1 ≤ d → day_count (pos y) m d ≡ ordinal_of y m d + 3652790
count_late y m d year low high day =
    let next : suc (y + 9999) ≡ y + 10000 = omega arith in
    let march : march_days (y + 10000) ≡ march_days (y + 9999) + 365 + leap_day (pos (y + 10000)) = rw next at (march_days-suc (y + 9999)) in
    omega (arith, march, years_agree y year, late_in (is_leap y) m low high, leap_day-shift (pos y) (y + 10000) refl, day_count-late (pos y) (y + 10000) m d refl low high day)

counts_agree : (y m d : ℕ) → 1 ≤ y → 1 ≤ m → m ≤ 12 → 1 ≤ d → day_count (pos y) m d ≡ ordinal_of y m d + 3652790
counts_agree y m d year low high day = elim (cases_lt m 3) [
  | inl early ↦ count_early y m d year low (omega arith) day
  | inr late ↦ count_late y m d year late high day
]

-- the date has this year, month and day, and lies so many days after -9999-01-01
pub record IsDayOf (date : Date) (y m d n : ℕ) : Type 0 where
  pub year : date.year ≡ pos y
  pub month : date.month ≡ m
  pub day : date.day ≡ d
  pub since_min : epoch_day date +ℤ pos 4371587 ≡ pos n

pub is_day_of : (date : Date) (y m d n : ℕ) → y ≤ 9999 → m ≤ 12 → d ≤ 31 → date.year ≡ to_z w16 y → pos date.month ≡ to_z w8 m → pos date.day ≡ to_z w8 d
    → epoch_day date +ℤ pos 4371587 ≡ pos n → IsDayOf date y m d n
is_day_of date y m d n yl ml dl ye me de e =
    let month : pos date.month ≡ pos m = me ∙ to_z_pos w8 m (omega arith) in
    let day : pos date.day ≡ pos d = de ∙ to_z_pos w8 d (omega arith) in
    record { year = ye ∙ to_z_pos w16 y (omega arith); month = cc; day = cc; since_min = e }

pub dated_by : (date : Date) (y m d n : ℕ) → IsDayOf date y m d n → 1 ≤ y → y ≤ 9999 → Dated y m d
dated_by date y m d n is low high =
    let length : days_in_month date.year date.month ≡ month_length y m = (λ i. days_in_month (is.year i) (is.month i)) in
    record {
      year_low = low;
      year_high = high;
      month_low = omega (arith, is.month, date.month_in);
      month_high = omega (arith, is.month, date.month_in);
      day_low = omega (arith, is.day, date.day_in);
      day_high = omega (arith, is.day, date.day_in, length);
    }

pub days_agree : (date : Date) (y m d n : ℕ) → IsDayOf date y m d n → 1 ≤ y → y ≤ 9999 → n + 1 ≡ ordinal_of y m d + 3652425
days_agree date y m d n is low high =
    let t = dated_by date y m d n is low high in
    let parts : epoch_day date ≡ days_from_civil (pos y) m d = (λ i. days_from_civil (is.year i) (is.month i) (is.day i)) in
    let e : days_from_civil (pos y) m d +ℤ pos 4371587 ≡ pos n = ap (λ z. z +ℤ pos 4371587) (sym parts) ∙ is.since_min in
    omega (arith, signed_arith, days_from_civil-day_count (pos y) m d, counts_agree y m d low t.month_low t.month_high t.day_low)

-- the date with these parts
year_within : (y : ℕ) → y ≤ 9999 → IsYear (pos y)
year_within y h = (omega (arith, signed_arith), omega (arith, signed_arith))

abbrev date_with : (y m d : ℕ) → Dated y m d → Date
date_with y m d t = record { year = pos y; month = m; day = d; year_in = year_within y t.year_high; month_in = (t.month_low, t.month_high); day_in = (t.day_low, t.day_high) }

-- and the date so many days after -9999-01-01
same_day : (date : Date) (y m d o : ℕ) → Dated y m d → ordinal_of y m d ≡ o → epoch_day date +ℤ pos 4371587 ≡ pos (3652425 + o - 1) → epoch_day date ≡ days_from_civil (pos y) m d
same_day date y m d o t e is =
    omega (arith, signed_arith, days_from_civil-day_count (pos y) m d, counts_agree y m d t.year_low t.month_low t.month_high t.day_low)

date_is : (date : Date) (y m d o : ℕ) → Dated y m d → ordinal_of y m d ≡ o → epoch_day date +ℤ pos 4371587 ≡ pos (3652425 + o - 1) → (date.year ≡ pos y) × (date.month ≡ m) × (date.day ≡ d)
date_is date y m d o t e is = epoch_day_injective date (date_with y m d t) (same_day date y m d o t e is)

-- the date of an ordinal
pub record IsDateOf (date : Date) (o : ℕ) : Type 0 where
  pub year : date.year ≡ pos (year_of o)
  pub month : date.month ≡ month_of o
  pub day : date.day ≡ day_of_month o
  pub dated : Dated (year_of o) (month_of o) (day_of_month o)

pub date_there : (date : Date) (inner : ℕ) (o : ℕ) → inner ≡ o → IsTrue (is_ordinal inner) → epoch_day date +ℤ pos 4371587 ≡ pos (3652425 + inner - 1) → IsDateOf date o
date_there date inner o same h is =
    let range : IsTrue (is_ordinal o) = subst (λ n. IsTrue (is_ordinal n)) same h in
    let p = parts o range in
    let e = date_is date (year_of o) (month_of o) (day_of_month o) o p.date p.ordinal (is ∙ ap (λ n. pos (3652425 + n - 1)) same) in
    record { year = e.0; month = e.1; day = e.2; dated = p.date }

-- its parts, read back from signed numbers
reads_back : (w : Width) (z : ℤ) (n : ℕ) → z ≡ pos n → n < 2 ^ hbits w → to_z w (of_z w z) ≡ pos n
reads_back w z n e h = rw e (back_small w (pos n) h)

pub year_reads : (date : Date) (o : ℕ) (z : ℤ) → IsDateOf date o → z ≡ date.year → to_z w16 (of_z w16 z) ≡ pos (year_of o)
year_reads date o z is e = reads_back w16 z (year_of o) (e ∙ is.year) (omega (arith, is.dated.year_high))

pub month_reads : (date : Date) (o : ℕ) (z : ℤ) → IsDateOf date o → z ≡ pos date.month → to_z w8 (of_z w8 z) ≡ pos (month_of o)
month_reads date o z is e = reads_back w8 z (month_of o) (e ∙ ap pos is.month) (omega (arith, is.dated.month_high))

pub day_reads : (date : Date) (o : ℕ) (z : ℤ) → IsDateOf date o → z ≡ pos date.day → to_z w8 (of_z w8 z) ≡ pos (day_of_month o)
day_reads date o z is e = reads_back w8 z (day_of_month o) (e ∙ ap pos is.day) (omega (arith, is.dated.day_high, length_short (year_of o) (month_of o)))
