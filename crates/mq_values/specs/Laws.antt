-- What holds of values above their definitions.
use Rattle.std.specs.Prelude.{Bool, true, false, ◌&&◌, nat_eq}
use Rattle.mq_values.specs.Calendar.{is_ordinal}
use Rattle.mq_values.specs.Number.{is_mantissa}
use Rattle.mq_values.specs.declared.value.Kind.{Kind}
use Rattle.mq_values.specs.declared.value.Kind.TheVariants as kind
use Rattle.mq_values.specs.declared.value.Value.{Value}
use Rattle.mq_values.specs.declared.value.Value.TheVariants as value

-- a value that a column of the kind may hold
abbrev pub is_of : Kind → Value → Bool
is_of kind.Int (value.Num n) = is_mantissa n.mant && nat_eq n.scale 0
is_of (kind.Decimal s) (value.Num n) = is_mantissa n.mant && nat_eq n.scale s
is_of kind.Text (value.Num n) = false
is_of kind.Date (value.Num n) = false
is_of kind.Int (value.Text t) = false
is_of (kind.Decimal s) (value.Text t) = false
is_of kind.Text (value.Text t) = true
is_of kind.Date (value.Text t) = false
is_of kind.Int (value.Date d) = false
is_of (kind.Decimal s) (value.Date d) = false
is_of kind.Text (value.Date d) = false
is_of kind.Date (value.Date d) = is_ordinal d
is_of k value.Null = true
