-- The nodes of operators, from what their operands are bound to.
use Rattle.std.specs.Prelude.{List, [], ◌∷◌, map, Bool, not, Option, Some, None, Result, Ok}
use Rattle.std.specs.List.{list_all}
use Rattle.mq_values.specs.declared.operators.CmpOp.{CmpOp}
use Rattle.mq_values.specs.declared.operators.CmpOp.TheVariants as cmp
use Rattle.mq_values.specs.declared.operators.ProdOp.{ProdOp}
use Rattle.mq_values.specs.declared.operators.SumOp.{SumOp}
use Rattle.mq_values.specs.declared.value.Kind.{Kind}
use Rattle.mq_values.specs.declared.faults.Refused.{Refused}
use Rattle.mq_values.specs.declared.value.Value.{Value}
use Rattle.mq_ir.specs.declared.expression.BoundProd.{BoundProd}
use Rattle.mq_ir.specs.declared.expression.BoundSum.{BoundSum}
use Rattle.mq_ir.specs.declared.expression.Expr.{Expr}
use Rattle.mq_ir.specs.declared.expression.Expr.TheVariants as expr
use Rattle.mq_ir.specs.Results.{◌>>=◌}
use Rattle.mq_bind_scopes.specs.declared.kinds.ExprKind.{ExprKind}
use Rattle.mq_bind_scopes.specs.declared.kinds.ExprKind.TheVariants as kind
use Rattle.mq_bind_scopes.specs.declared.scopes.Found.{Found}
use Rattle.mq_bind_scopes.specs.OperatorKinds.{cast_kind, chain_kind, product_kind, sum_kind}
use Rattle.mq_bind_scopes.specs.Kinds.{common, is_condition_kind, number_scale, value_kind, wider}
use Rattle.mq_bind_expr.specs.NameNodes.{Walked, a_condition, a_value}
use Rattle.mq_bind_scopes.specs.Refusals.{kind_mismatch, refused_where}

abbrev pub exprs_of : List Found → List Expr
exprs_of = map (λ (f : Found). f.e)

abbrev pub kinds_of : List Found → List ExprKind
kinds_of = map (λ (f : Found). f.kind)

abbrev pub is_condition_found : Found → Bool
is_condition_found f = is_condition_kind f.kind

abbrev pub all_conditions : List Found → Bool
all_conditions = list_all is_condition_found

-- AND, OR and NOT take conditions
abbrev pub or_node : List Found → Walked
or_node fs = refused_where (not (all_conditions fs)) kind_mismatch (Ok (a_condition (expr.Or (exprs_of fs))))

abbrev pub and_node : List Found → Walked
and_node fs = refused_where (not (all_conditions fs)) kind_mismatch (Ok (a_condition (expr.And (exprs_of fs))))

abbrev pub not_node : Found → Walked
not_node f = refused_where (not (is_condition_found f)) kind_mismatch (Ok (a_condition (expr.Not f.e)))

-- the kind of the right side of an equality
abbrev pub equated_by : CmpOp → ExprKind → Option ExprKind
equated_by cmp.Eq k = Some k
equated_by _ k = None

-- tests compare numbers with numbers, texts with texts and dates with dates
abbrev pub go_together : ExprKind → ExprKind → Result ExprKind Refused
go_together k l = common (k ∷ l ∷ [])

abbrev pub cmp_node : CmpOp → Found → Found → Walked
cmp_node op a b =
    go_together a.kind b.kind >>= (λ k. Ok (record { e = expr.Cmp a.e op b.e; kind = kind.Condition; equated = equated_by op b.kind }))

abbrev pub between_node : Bool → Found → Found → Found → Walked
between_node negated a low high =
    go_together a.kind low.kind >>= (λ k. wider k high.kind >>= (λ l. Ok (a_condition (expr.Between a.e negated low.e high.e))))

abbrev pub in_node : Bool → Found → List Found → Walked
in_node negated a fs = common (a.kind ∷ kinds_of fs) >>= (λ k. Ok (a_condition (expr.InList a.e negated (exprs_of fs))))

abbrev pub null_node : Bool → Found → Walked
null_node negated a = refused_where (is_condition_found a) kind_mismatch (Ok (a_condition (expr.IsNull a.e negated)))

-- the terms of a chain
abbrev pub sum_terms : List (SumOp × Found) → List BoundSum
sum_terms = map (λ (t : SumOp × Found). record { op = t.0; e = t.1.e })

abbrev pub prod_terms : List (ProdOp × Found) → List BoundProd
prod_terms = map (λ (t : ProdOp × Found). record { op = t.0; e = t.1.e })

abbrev pub term_kinds : {Op : Type 0} → List (Op × Found) → List (Op × ExprKind)
term_kinds {Op} = map (λ (t : Op × Found). (t.0, t.1.kind))

abbrev pub sum_node : Found → List (SumOp × Found) → Walked
sum_node first terms = chain_kind sum_kind first.kind (term_kinds terms) >>= (λ k. Ok (a_value (expr.Sum first.e (sum_terms terms)) k))

abbrev pub prod_node : Found → List (ProdOp × Found) → Walked
prod_node first terms =
    chain_kind product_kind first.kind (term_kinds terms) >>= (λ k. Ok (a_value (expr.Prod first.e (prod_terms terms)) k))

abbrev pub neg_node : Found → Walked
neg_node a = number_scale a.kind >>= (λ s. Ok (a_value (expr.Neg a.e) (kind.Number s)))

abbrev pub lit_node : Value → Found
lit_node v = a_value (expr.Lit v) (value_kind v)

abbrev pub cast_node : Kind → Found → Walked
cast_node to a = cast_kind to a.kind >>= (λ k. Ok (a_value (expr.Cast a.e to) k))
