-- The steps of FOR .. FROM .. TO over whole numbers: the mantissas of numbers, or the ordinals of dates.
use Rattle.std.specs.Prelude.{ℕ, suc, ◌+◌, ◌/◌, ◌==◌, pos, ℤ, ◌+ℤ◌, ◌-ℤ◌, ◌*ℤ◌, ◌≤ℤ◌, int_le, unsigned_abs, Bool, List, map, Option, Some, None, if◌then◌else◌}
use Rattle.std.specs.List.{range_with_len}
use Rattle.mq_values.specs.Number.{Number}
use Rattle.mq_values.specs.declared.limits.TheConstants.{MAX_ORDINAL}
use Rattle.mq_values.specs.declared.value.Value.{Value}
use Rattle.mq_values.specs.declared.value.Value.TheVariants as value
use Rattle.mq_ir.specs.declared.query.SinglePlace.{SinglePlace}
use Rattle.mq_ir.specs.declared.query.SinglePlace.TheVariants as place
use Rattle.mq_ir.specs.Unfolding.{in_steps}
use Rattle.mq_unfold.specs.declared.courses.Course.{Course}
use Rattle.mq_unfold.specs.declared.courses.Line.{Line}
use Rattle.mq_unfold.specs.declared.courses.Line.TheVariants.{Numbers, Days}

-- up or down by so much
abbrev pub moved : Bool → ℤ → ℤ → ℤ
moved down from by = if down then from -ℤ by else from +ℤ by

-- the whole number after k steps
abbrev pub after : Bool → ℤ → ℤ → ℕ → ℤ
after down start step k = moved down start (pos k *ℤ step)

-- the number of the last step from low on that is not above high, where there is one
abbrev pub last_step : ℤ → ℤ → ℤ → Option ℕ
last_step low high (pos (suc step)) = if int_le low high then Some (unsigned_abs (high -ℤ low) / suc step) else None
last_step low high _ = None

abbrev pub last_of : Bool → Course → Option ℕ
last_of down course =
    if down then last_step course.stop.mant course.start.mant course.step.mant
    else last_step course.start.mant course.stop.mant course.step.mant

-- the value that a whole number stands for
abbrev pub value_on : Line → Number → Value
value_on Numbers n = value.Num n
value_on Days n = value.Date (unsigned_abs n.mant)

-- and whether it stands for one: a date has an ordinal in the range
abbrev pub IsOn : Line → ℤ → Type 0
IsOn Numbers m = Unit {0}
IsOn Days m = (pos 1 ≤ℤ m) × (m ≤ℤ pos MAX_ORDINAL)

abbrev pub HasEnds : Course → Type 0
HasEnds course = IsOn course.line course.start.mant × IsOn course.line course.stop.mant

-- a whole number of a course as a place
abbrev pub place_on : Course → ℤ → SinglePlace
place_on course m = place.At (value_on course.line (record { mant = m; scale = course.start.scale }))

-- all of a course as places, in order
abbrev pub course_places : Bool → Course → List SinglePlace
course_places down course =
    map (place_on course) (in_steps down course.start.mant course.stop.mant course.step.mant)

-- the first place and those that come up to so many steps further
abbrev pub stepped : Bool → Course → ℕ → List SinglePlace
stepped down course last =
    map (λ k. place_on course (after down course.start.mant course.step.mant k)) (range_with_len 0 (last + 1))

-- the ordinal of a date as a number
abbrev pub ordinal_number : ℕ → Number
ordinal_number day = record { mant = pos day; scale = 0 }

-- the course from a date to a date in steps of so many days, and it where these are whole
abbrev pub days : ℕ → ℕ → Number → Course
days start stop step = record { start = ordinal_number start; stop = ordinal_number stop; step = step; line = Days }

abbrev pub over_days : ℕ → ℕ → Number → Option Course
over_days start stop step = if step.scale == 0 then Some (days start stop step) else None

-- the course that a FOR with steps takes
abbrev pub course_of : Value → Value → Value → Option Course
course_of (value.Num start) (value.Num stop) (value.Num step) = Some (record { start = start; stop = stop; step = step; line = Numbers })
course_of (value.Date start) (value.Date stop) (value.Num step) = over_days start stop step
course_of _ _ _ = None
