-- What the bytes of a field hold as a value of a column.
use Rattle.std.specs.Prelude.{ℕ, List, [], ◌∷◌, not, ◌&&◌, ◌==◌, if◌then◌else◌, Option, Some, None}
use Rattle.std.specs.List.{find, range_with_len}
use Rattle.std.specs.Option.{option_and_then, option_map}
use Rattle.std.specs.Result.{result_ok}
use Rattle.std.specs.Str.{bytes_eq, is_utf8}
use Rattle.mq_values.specs.Aggregate.{is_value}
use Rattle.mq_values.specs.Arithmetic.{negation_of}
use Rattle.mq_values.specs.Bytes.{MINUS}
use Rattle.mq_values.specs.Calendar.{text_of_day}
use Rattle.mq_values.specs.Convert.{cast_of}
use Rattle.mq_values.specs.Number.{Number}
use Rattle.mq_values.specs.Text.{is_text}
use Rattle.mq_values.specs.declared.limits.TheConstants.{MAX_ORDINAL}
use Rattle.mq_values.specs.declared.value.Kind.{Kind}
use Rattle.mq_values.specs.declared.value.Kind.TheVariants as kind
use Rattle.mq_values.specs.declared.value.Value.{Value}
use Rattle.mq_values.specs.declared.value.Value.TheVariants as value
use Rattle.mq_lexer.specs.Numbers.{is_number, number_of}
use Rattle.mq_ir.specs.declared.statement.Column.{Column}

-- the bytes of a field
abbrev pub Field : Type 0
Field = List ℕ

-- +
abbrev pub PLUS : ℕ
PLUS = 43

-- the number of bytes that are spelled as one, within the limits of a spelling
abbrev pub plain_number : Field → Option Number
plain_number z = if is_number z then number_of z else None

abbrev pub negated : Number → Option Number
negated n = result_ok (negation_of n)

-- one `+` or `-` may stand in front
abbrev pub signed_number : Field → Option Number
signed_number [] = None
signed_number (b ∷ z) =
    if b == PLUS then plain_number z
    else (if b == MINUS then option_and_then negated (plain_number z) else plain_number (b ∷ z))

-- a number, converted to the kind as in assigning, where that succeeds
abbrev pub number_value : Kind → Field → Option Value
number_value k z = option_and_then (λ n. result_ok (cast_of (value.Num n) k)) (signed_number z)

-- bytes that are UTF-8 and a text of the language
abbrev pub text_value : Field → Option Value
text_value z = if is_utf8 z && is_text z then Some (value.Text z) else None

-- the day that prints as these bytes
unfoldable pub day_of_text : Field → Option ℕ
day_of_text z = find (λ day. bytes_eq (text_of_day day) z) (range_with_len 1 MAX_ORDINAL)

abbrev pub date_value : Field → Option Value
date_value z = option_map value.Date (day_of_text z)

-- the value that bytes spell
abbrev pub spelled_value : Kind → Field → Option Value
spelled_value kind.Int z = number_value kind.Int z
spelled_value (kind.Decimal s) z = number_value (kind.Decimal s) z
spelled_value kind.Text z = text_value z
spelled_value kind.Date z = date_value z

-- an empty field is null
abbrev pub field_value : Kind → Field → Option Value
field_value k [] = Some value.Null
field_value k (b ∷ z) = spelled_value k (b ∷ z)

-- null is no value where the column is NOT NULL
abbrev pub unless_refused : Column → Value → Option Value
unless_refused col v = if col.not_null && not (is_value v) then None else Some v

-- the value of a field in its column, where it holds one
abbrev pub column_value : Column → Field → Option Value
column_value col z = option_and_then (unless_refused col) (field_value col.kind z)
