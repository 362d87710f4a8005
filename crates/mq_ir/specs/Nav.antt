-- What a null reads as under IGNORE NAV.
use Rattle.std.specs.Prelude.{pos, [], Bool, ◌&&◌, not, nat_le, if◌then◌else◌}
use Rattle.mq_values.specs.Aggregate.{is_value}
use Rattle.mq_values.specs.declared.limits.TheConstants.{DEFAULT_ORDINAL, MAX_SCALE}
use Rattle.mq_values.specs.declared.value.Kind.{Kind}
use Rattle.mq_values.specs.declared.value.Kind.TheVariants as kind
use Rattle.mq_values.specs.declared.value.Value.{Value}
use Rattle.mq_values.specs.declared.value.Value.TheVariants as value

-- zero at the scale of a number kind, the empty text, and the default day; null for a kind whose scale no value has
abbrev pub default_of : Kind → Value
default_of kind.Int = value.Num (record { mant = pos 0; scale = 0 })
default_of (kind.Decimal s) = if nat_le s MAX_SCALE then value.Num (record { mant = pos 0; scale = s }) else value.Null
default_of kind.Text = value.Text []
default_of kind.Date = value.Date DEFAULT_ORDINAL

-- under IGNORE NAV a null reads as the default of its measure's kind
abbrev pub with_nav : Bool → Kind → Value → Value
with_nav ignore kind v = if ignore && not (is_value v) then default_of kind else v
