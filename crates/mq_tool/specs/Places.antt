-- The values that name a partition or a cell.
use Rattle.std.specs.Prelude.{[], Result}
use Rattle.mq_values.specs.declared.faults.Refused.{Refused}
use Rattle.mq_values.specs.declared.faults.Refused.TheVariants as refused
use Rattle.mq_values.specs.declared.value.Kind.{Kind}
use Rattle.mq_values.specs.declared.value.Value.{Value}
use Rattle.mq_ir.specs.declared.expression.Expr.{Expr}
use Rattle.mq_ir.specs.Items.{row_leaves}
use Rattle.mq_ir.specs.Results.{marked}
use Rattle.mq_ir.specs.Tests.{converted}
use Rattle.mq_tool.specs.declared.explaining.TheConstants.{NO_ROW}

-- the value of an expression that sees no row, converted to the kind of its place
abbrev pub value_at_place : Kind → Expr → Result Value Refused
value_at_place kind e = marked (refused.ChangeValue NO_ROW) (converted (row_leaves []) kind e)
