-- The values that a change puts into columns.
use Rattle.std.specs.Prelude.{ℕ, Bool, List, [], ◌∷◌, not, ◌&&◌, if◌then◌else◌, Result, Ok, Err, slice_get, nat_eq}
use Rattle.std.specs.List.{list_all, list_any}
use Rattle.std.specs.Option.{option_map_or}
use Rattle.mq_values.specs.Aggregate.{is_value}
use Rattle.mq_values.specs.declared.faults.Refused.{Refused}
use Rattle.mq_values.specs.declared.faults.Refused.TheVariants as refused
use Rattle.mq_values.specs.declared.value.Value.{Value}
use Rattle.mq_values.specs.declared.value.Value.TheVariants.{Null}
use Rattle.mq_ir.specs.declared.expression.Expr.{Expr}
use Rattle.mq_ir.specs.declared.expression.Leaf.{Leaf}
use Rattle.mq_ir.specs.declared.statement.Column.{Column}
use Rattle.mq_ir.specs.declared.statement.Schema.{Schema}
use Rattle.mq_ir.specs.Changes.{column_value, set_values, with_values}
use Rattle.mq_ir.specs.Expression.{Outcome}
use Rattle.mq_ir.specs.Keys.{Tuple}
use Rattle.mq_ir.specs.Results.{◌>>=◌, marked}
use Rattle.mq_ir.specs.Unfolding.{converted}

-- a value that stands for a column, where it may be null
abbrev pub asked_for_null : Column → Value → Result Value Refused
asked_for_null col v = if col.not_null && not (is_value v) then Err (refused.NotNull col.name) else Ok v

abbrev pub column_found : (Leaf → Outcome) → ℕ → Column → Expr → Result Value Refused
column_found leaves number col e = marked (refused.ChangeValue number) (converted leaves col.kind e) >>= asked_for_null col

-- what SET puts into a column of the row of this number
abbrev pub set_value : Schema → ℕ → Tuple → ℕ → Expr → Result Value Refused
set_value schema number row c e = option_map_or (λ col. column_value (row ∷ []) number col e) (slice_get schema.cols c) (Ok Null)

abbrev pub row_set : Schema → List (ℕ × Expr) → ℕ × Tuple → Result Tuple Refused
row_set schema sets row = set_values schema sets row >>= (λ values. Ok (with_values row.1 values))

-- no column of the key is set
abbrev pub spares_key : List (ℕ × Expr) → List ℕ → Bool
spares_key sets key = list_all (λ set. not (list_any (nat_eq set.0) key)) sets
