-- A row that is put together value by value.
use Rattle.std.specs.Prelude.{ℕ, List, map, slice_get, slice_set}
use Rattle.std.specs.Option.{option_map_or}
use Rattle.mq_values.specs.declared.value.Value.TheVariants as value
use Rattle.mq_ir.specs.declared.expression.Expr.{Expr}
use Rattle.mq_ir.specs.declared.expression.Expr.TheVariants as expr
use Rattle.mq_ir.specs.declared.statement.Column.{Column}
use Rattle.mq_ir.specs.declared.statement.Schema.{Schema}

-- NULL for each column
abbrev pub null_of : Column → Expr
null_of c = expr.Lit value.Null

abbrev pub null_row : Schema → List Expr
null_row schema = map null_of schema.cols

-- an expression at the column of this place, where there is one
abbrev pub put_at : {T : Type 0} → List ℕ → ℕ → T → List T → List T
put_at numbers place e row = option_map_or (λ n. slice_set row n e) (slice_get numbers place) row
