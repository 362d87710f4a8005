-- The columns of a table, as items of a query.
use Rattle.std.specs.Prelude.{ℕ, List, map}
use Rattle.std.specs.List.{range_with_len}
use Rattle.mq_ir.specs.declared.expression.Expr.{Expr}
use Rattle.mq_ir.specs.declared.expression.Expr.TheVariants as expr
use Rattle.mq_ir.specs.declared.expression.Leaf.TheVariants as leaf

-- the column of this number of the first FROM item
abbrev pub column : ℕ → Expr
column number = expr.Leaf (leaf.Column 0 number)

-- so many columns of it, from the first on
abbrev pub columns_of : ℕ → List Expr
columns_of count = map column (range_with_len 0 count)
