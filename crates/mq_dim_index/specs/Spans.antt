-- The keys that meet a test where they stand in one row.
use Rattle.std.specs.Prelude.{◌≡◌, ℕ, ◌≤◌, Bool, true, false, List, Option, Some, None, if◌then◌else◌, length}
use Rattle.std.specs.List.{AllWithin}
use Rattle.std.specs.declared.cmp.Ordering.{Ordering}
use Rattle.std.specs.declared.cmp.Ordering.TheVariants.{Less, Equal, Greater}
use Rattle.mq_values.specs.Order.{cmp_value, compared}
use Rattle.mq_values.specs.Truth.{agrees}
use Rattle.mq_values.specs.declared.operators.CmpOp.{CmpOp}
use Rattle.mq_values.specs.declared.operators.CmpOp.TheVariants.{Eq, Ne, Lt, Le, Gt, Ge}
use Rattle.mq_values.specs.declared.value.Value.{Value}
use Rattle.mq_dim_index.specs.Places.{Tuple}

-- the keys that pass are those of one row
pub record IsSpan (passes : Tuple → Bool) (keys : List Tuple) (start : ℕ) (end : ℕ) : Type 0 where
  pub ordered : start ≤ end
  pub within : end ≤ length keys
  pub before : AllWithin (λ key. passes key ≡ false) keys 0 start
  pub among : AllWithin (λ key. passes key ≡ true) keys start end
  pub behind : AllWithin (λ key. passes key ≡ false) keys end (length keys)

-- where the values stand that an operator does not hold of: in front of those that it holds of, or behind them
abbrev pub aside : CmpOp → Ordering → Ordering
aside Eq order = order
aside Ne order = order
aside Lt order = Greater
aside Le order = Greater
aside Gt order = Less
aside Ge order = Less

-- how a value that stands so to the operand stands to the values that the operator holds of
abbrev pub stand_to : CmpOp → Ordering → Ordering
stand_to op order = if agrees op order then Equal else aside op order

-- the same of two values; those of another sort are in front of them or behind them
abbrev pub stand_beside : CmpOp → Option Ordering → Ordering → Ordering
stand_beside op None order = order
stand_beside op (Some told) order = stand_to op told

-- how the value of a key stands to those that a comparison with w holds of; where there is none it stands in front
abbrev pub stand_by : CmpOp → Value → Option Value → Ordering
stand_by op w None = Less
stand_by op w (Some v) = stand_beside op (compared v w) (cmp_value v w)

-- how it stands to w itself
abbrev pub stand_at : Value → Option Value → Ordering
stand_at w None = Less
stand_at w (Some v) = cmp_value v w
