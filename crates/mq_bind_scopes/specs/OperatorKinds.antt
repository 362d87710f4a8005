-- The kinds that operators, functions and aggregates make of those of their operands.
use Rattle.std.specs.Prelude.{ℕ, ◌+◌, max, min, Bool, true, false, not, nat_le, List, [], ◌∷◌, Ok}
use Rattle.mq_values.specs.declared.limits.TheConstants.{MAX_SCALE, MIN_QUOTIENT_SCALE}
use Rattle.mq_values.specs.declared.operators.Agg.{Agg}
use Rattle.mq_values.specs.declared.operators.Agg.TheVariants as agg
use Rattle.mq_values.specs.declared.operators.Func.{Func}
use Rattle.mq_values.specs.declared.operators.Func.TheVariants as func
use Rattle.mq_values.specs.declared.operators.ProdOp.{ProdOp}
use Rattle.mq_values.specs.declared.operators.ProdOp.TheVariants.{Mul, Div}
use Rattle.mq_values.specs.declared.operators.SumOp.{SumOp}
use Rattle.mq_values.specs.declared.operators.SumOp.TheVariants.{Add, Sub, Join}
use Rattle.mq_values.specs.declared.value.Kind.{Kind}
use Rattle.mq_values.specs.declared.value.Kind.TheVariants as column
use Rattle.mq_ir.specs.declared.limit_numbers.TheConstants.{LIMIT_OF_SCALE}
use Rattle.mq_ir.specs.FitsExpression.{kind_fits}
use Rattle.mq_ir.specs.Results.{◌>>=◌}
use Rattle.mq_bind_scopes.specs.declared.kinds.ExprKind.{ExprKind}
use Rattle.mq_bind_scopes.specs.declared.kinds.ExprKind.TheVariants as kind
use Rattle.mq_bind_scopes.specs.Refusals.{refused_where, kind_mismatch, limit}
use Rattle.mq_bind_scopes.specs.Kinds.{Judged, mismatch, of_column, is_assignable, is_condition_kind, is_day_count, is_null_kind, number_scale, operand_scale, common}

-- numbers, or NULL: the larger scale
abbrev pub numbers_kind : ExprKind → ExprKind → Judged
numbers_kind k l = operand_scale k >>= (λ s. operand_scale l >>= (λ t. Ok (kind.Number (max s t))))

-- a date that is moved by a number of days
abbrev pub shifted_kind : ExprKind → Judged
shifted_kind days = refused_where (not (is_day_count days)) kind_mismatch (Ok kind.Date)

-- `+` takes numbers, and a date and a number of days in either order
abbrev pub added_kind : ExprKind → ExprKind → Judged
added_kind kind.Date days = shifted_kind days
added_kind days kind.Date = shifted_kind days
added_kind k l = numbers_kind k l

-- `-` takes numbers, a date less a number of days, and a date less a date, which is a number of days
abbrev pub subtracted_kind : ExprKind → ExprKind → Judged
subtracted_kind kind.Date kind.Date = Ok (kind.Number 0)
subtracted_kind kind.Date days = shifted_kind days
subtracted_kind k l = numbers_kind k l

-- `||` takes numbers, texts and dates
abbrev pub joined_kind : ExprKind → ExprKind → Judged
joined_kind k l = refused_where (is_condition_kind k) kind_mismatch (refused_where (is_condition_kind l) kind_mismatch (Ok kind.Text))

-- all three take NULL
abbrev pub sum_kind : SumOp → ExprKind → ExprKind → Judged
sum_kind Add k l = added_kind k l
sum_kind Sub k l = subtracted_kind k l
sum_kind Join k l = joined_kind k l

abbrev pub product_scale : ProdOp → ℕ → ℕ → ℕ
product_scale Mul s t = min (s + t) MAX_SCALE
product_scale Div s t = max (max s t) MIN_QUOTIENT_SCALE

abbrev pub product_kind : ProdOp → ExprKind → ExprKind → Judged
product_kind op k l = operand_scale k >>= (λ s. operand_scale l >>= (λ t. Ok (kind.Number (product_scale op s t))))

-- a chain of operators, from the left
abbrev pub chain_kind : {Op : Type 0} → (Op → ExprKind → ExprKind → Judged) → ExprKind → List (Op × ExprKind) → Judged
chain_kind combined k [] = Ok k
chain_kind combined k (term ∷ terms) = combined term.0 k term.1 >>= (λ l. chain_kind combined l terms)

-- ROUND to a scale
abbrev pub rounded_kind : ℕ → ExprKind → Judged
rounded_kind scale k =
    number_scale k >>= (λ s. refused_where (not (nat_le scale MAX_SCALE)) (limit LIMIT_OF_SCALE) (Ok (kind.Number scale)))

-- the functions; NULL by itself is no number and no text, and no function but NVL takes a date
abbrev pub length_kind : ExprKind → Judged
length_kind kind.Text = Ok (kind.Number 0)
length_kind _ = mismatch

abbrev pub unary_kind : Func → ExprKind → Judged
unary_kind func.Abs k = number_scale k >>= (λ s. Ok (kind.Number s))
unary_kind func.Floor k = number_scale k >>= (λ s. Ok (kind.Number 0))
unary_kind func.Length k = length_kind k
unary_kind (func.Round scale) k = rounded_kind scale k
unary_kind func.Nvl k = mismatch

abbrev pub binary_kind : Func → ExprKind → ExprKind → Judged
binary_kind func.Nvl k l = common (k ∷ l ∷ [])
binary_kind _ k l = mismatch

abbrev pub call_kind : Func → List ExprKind → Judged
call_kind f (k ∷ []) = unary_kind f k
call_kind f (k ∷ l ∷ []) = binary_kind f k l
call_kind _ _ = mismatch

-- CAST takes every value to TEXT, and to another kind what a column of that kind takes
abbrev pub is_castable : ExprKind → Kind → Bool
is_castable k column.Text = not (is_condition_kind k)
is_castable k to = is_assignable (of_column to) k

abbrev pub cast_kind : Kind → ExprKind → Judged
cast_kind to k =
    refused_where (not (is_castable k to)) kind_mismatch (refused_where (not (kind_fits to)) (limit LIMIT_OF_SCALE) (Ok (of_column to)))

abbrev pub aggregate_kind : Agg → ExprKind → Judged
aggregate_kind agg.Sum k = number_scale k >>= (λ s. Ok (kind.Number s))
aggregate_kind agg.Avg k = number_scale k >>= (λ s. Ok (kind.Number (max s MIN_QUOTIENT_SCALE)))
aggregate_kind agg.Count k = refused_where (is_condition_kind k) kind_mismatch (Ok (kind.Number 0))
aggregate_kind _ k = refused_where (is_null_kind k) kind_mismatch (refused_where (is_condition_kind k) kind_mismatch (Ok k))
