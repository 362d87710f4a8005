-- Conditions of three values: true, false, or unknown, which is None.
use Rattle.std.specs.Prelude.{Bool, true, false, not, Option, Some, None}
use Rattle.std.specs.Ordering.{is_eq, is_ne, is_lt, is_le, is_gt, is_ge}
use Rattle.std.specs.declared.cmp.Ordering.{Ordering}
use Rattle.mq_values.specs.Order.{compared}
use Rattle.mq_values.specs.declared.operators.CmpOp.{CmpOp}
use Rattle.mq_values.specs.declared.operators.CmpOp.TheVariants.{Eq, Ne, Lt, Le, Gt, Ge}
use Rattle.mq_values.specs.declared.value.Value.{Value}

abbrev pub Truth : Type 0
Truth = Option Bool

-- unknown counts as not true
abbrev pub is_true : Truth → Bool
is_true None = false
is_true (Some b) = b

abbrev pub opposite : Truth → Truth
opposite None = None
opposite (Some b) = Some (not b)

-- where NOT stands in a test
abbrev pub negated_if : Bool → Truth → Truth
negated_if false t = t
negated_if true t = opposite t

-- a AND b: false where one is false
abbrev pub both : Truth → Truth → Truth
both (Some false) u = Some false
both (Some true) u = u
both None (Some false) = Some false
both None (Some true) = None
both None None = None

-- a OR b: true where one is true
abbrev pub either : Truth → Truth → Truth
either (Some true) u = Some true
either (Some false) u = u
either None (Some true) = Some true
either None (Some false) = None
either None None = None

-- what an operator makes of the order of two values
abbrev pub agrees : CmpOp → Ordering → Bool
agrees Eq = is_eq
agrees Ne = is_ne
agrees Lt = is_lt
agrees Le = is_le
agrees Gt = is_gt
agrees Ge = is_ge

abbrev pub agrees_with : CmpOp → Option Ordering → Truth
agrees_with op None = None
agrees_with op (Some order) = Some (agrees op order)

-- a comparison: unknown where one is null or the two are of different sorts
abbrev pub comparison : CmpOp → Value → Value → Truth
comparison op v w = agrees_with op (compared v w)
