-- Conversions between kinds, and texts made of values.
use Rattle.std.specs.Prelude.{ℕ, pos, Bool, true, false, nat_le, if◌then◌else◌, List, [], ◌++◌, length, Result, Ok, Err}
use Rattle.mq_values.specs.Answers.{result_map}
use Rattle.mq_values.specs.Calendar.{text_of_day}
use Rattle.std.specs.Str.{chars}
use Rattle.mq_values.specs.Number.{Number, text_of_number}
use Rattle.mq_values.specs.Arithmetic.{rescaled}
use Rattle.mq_values.specs.declared.limits.TheConstants.{MAX_SCALE, MAX_TEXT_BYTES}
use Rattle.mq_values.specs.declared.faults.ValueFault.{ValueFault}
use Rattle.mq_values.specs.declared.faults.ValueFault.TheVariants.{TextTooLong}
use Rattle.mq_values.specs.declared.value.Kind.{Kind}
use Rattle.mq_values.specs.declared.value.Kind.TheVariants as kind
use Rattle.mq_values.specs.declared.value.Value.{Value}
use Rattle.mq_values.specs.declared.value.Value.TheVariants as value

-- a number brought to scale s; above the largest scale there is no such kind, and the value is null
abbrev pub number_at : Number → ℕ → Result Value ValueFault
number_at n s = if nat_le s MAX_SCALE then result_map value.Num (rescaled n s) else Ok value.Null

-- the cast to a kind: a number to a number is rescaled; a number or a date to a text is its printed text; else a value has its own sort alone
abbrev pub cast_of : Value → Kind → Result Value ValueFault
cast_of (value.Num n) kind.Int = number_at n 0
cast_of (value.Num n) (kind.Decimal s) = number_at n s
cast_of (value.Num n) kind.Text = Ok (value.Text (text_of_number n))
cast_of (value.Num n) kind.Date = Ok value.Null
cast_of (value.Text t) kind.Int = Ok value.Null
cast_of (value.Text t) (kind.Decimal s) = Ok value.Null
cast_of (value.Text t) kind.Text = Ok (value.Text t)
cast_of (value.Text t) kind.Date = Ok value.Null
cast_of (value.Date d) kind.Int = Ok value.Null
cast_of (value.Date d) (kind.Decimal s) = Ok value.Null
cast_of (value.Date d) kind.Text = Ok (value.Text (text_of_day d))
cast_of (value.Date d) kind.Date = Ok (value.Date d)
cast_of value.Null k = Ok value.Null

-- an operand of `||` as a text: null acts as the empty text
abbrev pub operand_text : Value → List ℕ
operand_text (value.Num n) = text_of_number n
operand_text (value.Text t) = t
operand_text (value.Date d) = text_of_day d
operand_text value.Null = []

abbrev pub are_null : Value → Value → Bool
are_null value.Null value.Null = true
are_null a b = false

-- a || b: null only where both are null
abbrev pub joined : Value → Value → Result Value ValueFault
joined a b =
    let bytes = operand_text a ++ operand_text b in
    if are_null a b then Ok value.Null
    else (if nat_le (length bytes) MAX_TEXT_BYTES then Ok (value.Text bytes) else Err TextTooLong)

-- the number of characters of a text
abbrev pub length_of : Value → Value
length_of (value.Num n) = value.Null
length_of (value.Text t) = value.Num (record { mant = pos (length (chars t)); scale = 0 })
length_of (value.Date d) = value.Null
length_of value.Null = value.Null
