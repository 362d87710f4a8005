-- The proleptic Gregorian calendar, and days by their ordinals: 1 is the first of January of the year 1.
use Rattle.std.specs.Prelude.{◌≡◌, ◌≢◌, IsTrue, ℕ, ◌+◌, ◌-◌, ◌*◌, ◌/◌, ◌%◌, ◌^◌, ◌<◌, pos, ℤ, ◌+ℤ◌, ◌-ℤ◌, int_le, unsigned_abs, Bool, not, ◌&&◌, ◌||◌, ◌==◌, nat_le, nat_lt, Option, Some, None, List, ◌∷◌, ◌++◌, length, Result, Ok, Err, if◌then◌else◌}
use Rattle.std.specs.List.{range_with_len, filter}
use Rattle.mq_values.specs.Bytes.{MINUS}
use Rattle.mq_values.specs.Number.{Number, fixed_digits}
use Rattle.mq_values.specs.declared.limits.TheConstants.{MAX_ORDINAL, MAX_YEAR, MONTHS}
use Rattle.mq_values.specs.declared.faults.ValueFault.{ValueFault}
use Rattle.mq_values.specs.declared.faults.ValueFault.TheVariants.{DateRange}

-- every fourth year, but of the centuries only every fourth
abbrev pub is_leap : ℕ → Bool
is_leap year = (year % 4 == 0) && (not (year % 100 == 0) || (year % 400 == 0))

-- February has 28 days, or 29 in a leap year; April, June, September and November have 30, and the others 31
abbrev pub month_length : ℕ → ℕ → ℕ
month_length year month =
    if month == 2 then (if is_leap year then 29 else 28)
    else (if (month == 4) || (month == 6) || (month == 9) || (month == 11) then 30 else 31)

-- a date of the calendar whose year has at most four digits
abbrev pub is_date : ℕ → ℕ → ℕ → Bool
is_date year month day =
    nat_le 1 year && nat_le year MAX_YEAR && nat_le 1 month && nat_le month MONTHS && nat_le 1 day && nat_le day (month_length year month)

-- how many days lie before the first of January of a year, counted from that of the year 1
abbrev pub days_before_year : ℕ → ℕ
days_before_year year = let past = year - 1 in 365 * past + past / 4 + past / 400 - past / 100

-- and between the first of January and the first of a month of that year
abbrev pub days_before_month : ℕ → ℕ → ℕ
days_before_month year month =
    let even = (367 * month - 362) / 12 in
    if nat_le month 2 then even else (if is_leap year then even - 1 else even - 2)

-- the ordinal of a date
abbrev pub ordinal_of : ℕ → ℕ → ℕ → ℕ
ordinal_of year month day = days_before_year year + days_before_month year month + day

-- the ordinal of a date that there is
abbrev pub date_of : ℕ → ℕ → ℕ → Option ℕ
date_of year month day = if is_date year month day then Some (ordinal_of year month day) else None

-- an ordinal in the range
abbrev pub is_ordinal : ℕ → Bool
is_ordinal day = nat_le 1 day && nat_le day MAX_ORDINAL

-- of the numbers from 1 to n those before which fewer days lie, counted: the last year, or month, that begins on the day or before it
unfoldable pub last_begun : ℕ → (ℕ → ℕ) → ℕ → ℕ
last_begun n days_before day = length (filter (λ k. nat_lt (days_before k) day) (range_with_len 1 n))

-- the year, the month and the day of the month of an ordinal
abbrev pub year_of : ℕ → ℕ
year_of day = last_begun MAX_YEAR days_before_year day

abbrev pub month_of : ℕ → ℕ
month_of day = let year = year_of day in last_begun MONTHS (days_before_month year) (day - days_before_year year)

abbrev pub day_of_month : ℕ → ℕ
day_of_month day = day - ordinal_of (year_of day) (month_of day) 0

-- a date as text: four digits, two and two, with `-` between
abbrev pub date_text : ℕ → ℕ → ℕ → List ℕ
date_text year month day = fixed_digits 4 year ++ MINUS ∷ (fixed_digits 2 month ++ MINUS ∷ fixed_digits 2 day)

unfoldable pub text_of_day : ℕ → List ℕ
text_of_day day = date_text (year_of day) (month_of day) (day_of_month day)

-- the day of a whole number, where it is an ordinal in the range
abbrev pub day_at : ℤ → Result ℕ ValueFault
day_at z = if int_le (pos 1) z && int_le z (pos MAX_ORDINAL) then Ok (unsigned_abs z) else Err DateRange

-- the day so many days on, where there is one
abbrev pub shifted : ℕ → ℤ → Result ℕ ValueFault
shifted day by = day_at (pos day +ℤ by)

-- how many days the first lies behind the second
abbrev pub days_between : ℕ → ℕ → Number
days_between a b = record { mant = pos a -ℤ pos b; scale = 0 }

-- the number that so many digits spell, where they are digits
abbrev pub SpellsDigits : ℕ → List ℕ → Option ℕ → Type 0
SpellsDigits count digits (Some n) = (n < 10 ^ count) × (fixed_digits count n ≡ digits)
SpellsDigits count digits None = (n : ℕ) → fixed_digits count n ≢ digits

-- the day that a text spells as it prints, where it spells one
abbrev pub SpellsDay : List ℕ → Option ℕ → Type 0
SpellsDay text (Some day) = IsTrue (is_ordinal day) × (text_of_day day ≡ text)
SpellsDay text None = (day : ℕ) → IsTrue (is_ordinal day) → text_of_day day ≢ text
