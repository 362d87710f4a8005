-- What an expression is bound to, case by case.
use Rattle.std.specs.Prelude.{◌≡◌, ℕ, List, Option}
use Rattle.std.proofs.Common.{sym, ap, ◌∙◌}
use Rattle.mq_values.specs.declared.operators.Agg.{Agg}
use Rattle.mq_values.specs.declared.operators.Func.{Func}
use Rattle.mq_values.specs.declared.value.Kind.{Kind}
use Rattle.mq_ast.specs.declared.expressions.E.{E}
use Rattle.mq_ast.specs.declared.expressions.E.TheOpen as layer
use Rattle.mq_ast.specs.declared.expressions.E.TheVariants as e
use Rattle.mq_ast.specs.declared.expressions.Path.{Path}
use Rattle.mq_ast.specs.declared.expressions.Place.{Place}
use Rattle.mq_ir.specs.Results.{◌>>=◌}
use Rattle.mq_bind_scopes.specs.declared.scopes.Position.{Position}
use Rattle.mq_bind_scopes.specs.declared.scopes.Scope.{Scope}
use Rattle.mq_bind_expr.specs.CellNodes.{agg_node, cell_node, count_all_node, range_node}
use Rattle.mq_bind_expr.specs.RuleNodes.{cv_node, presentnnv_node, presentv_node, previous_node, turn_node}
use Rattle.mq_bind_expr.specs.ExpressionParts.{all_are, all_found, index_found, indices_are, test_found, tests_are}
use Rattle.mq_bind_expr.specs.ExpressionRolls.{bound_roll}
use Rattle.mq_bind_expr.specs.Steps.{each_from}
use Rattle.mq_bind_expr.specs.ExpressionWalk.{bound}
use Rattle.mq_bind_expr.specs.NameNodes.{name_node}
use Rattle.mq_bind_expr.specs.OperatorNodes.{cast_node}
use Rattle.mq_bind_expr.specs.FunctionNodes.{call_node}
use Rattle.mq_bind_scopes.specs.Positions.{aggregated, inner, owner_of}
use Rattle.mq_bind_expr.specs.CaseLaws.{bound_case}
use Rattle.mq_bind_expr.specs.OperatorLaws.{bound_or, bound_and, bound_not, bound_cmp, bound_between, bound_in, bound_is_null, bound_is_present, bound_is_any, bound_sum, bound_prod, bound_neg, bound_lit}

pub bound_name : (scope : Scope) (path : Path) (at : Position) → bound scope (e.Name path) at ≡ name_node scope at path
bound_name scope path at = ap (λ x. bound scope x at) (sym (e.rolls-Name path)) ∙ bound_roll scope (layer.Name path) at

pub bound_cell : (scope : Scope) (path : Path) (ps : List Place) (at : Position) →
    bound scope (e.Cell path ps) at ≡
    (each_from (index_found scope at (owner_of scope path)) 0 ps >>= cell_node scope at path (owner_of scope path))
bound_cell scope path ps at =
    ap (λ x. bound scope x at) (sym (e.rolls-Cell path ps))
    ∙ bound_roll scope (layer.Cell path ps) at
    ∙ ap (λ r. r >>= cell_node scope at path (owner_of scope path)) (indices_are scope at (owner_of scope path) 0 ps)

pub bound_agg : (scope : Scope) (f : Agg) (x : E) (at : Position) →
    bound scope (e.Agg f x) at ≡ (bound scope x (aggregated at) >>= agg_node at f)
bound_agg scope f x at = ap (λ x. bound scope x at) (sym (e.rolls-Agg f x)) ∙ bound_roll scope (layer.Agg f x) at

pub bound_count_all : (scope : Scope) (at : Position) → bound scope e.CountAll at ≡ count_all_node at
bound_count_all scope at = ap (λ x. bound scope x at) (sym e.rolls-CountAll) ∙ bound_roll scope layer.CountAll at

pub bound_range : (scope : Scope) (f : Agg) (name : List ℕ) (ps : List Place) (at : Position) →
    bound scope (e.RangeAgg f name ps) at ≡ (each_from (test_found scope at) 0 ps >>= range_node scope at f name)
bound_range scope f name ps at =
    ap (λ x. bound scope x at) (sym (e.rolls-RangeAgg f name ps))
    ∙ bound_roll scope (layer.RangeAgg f name ps) at
    ∙ ap (λ r. r >>= range_node scope at f name) (tests_are scope at 0 ps)

pub bound_cast : (scope : Scope) (x : E) (k : Kind) (at : Position) →
    bound scope (e.Cast x k) at ≡ (bound scope x (inner at) >>= cast_node k)
bound_cast scope x k at = ap (λ x. bound scope x at) (sym (e.rolls-Cast x k)) ∙ bound_roll scope (layer.Cast x k) at

pub bound_call : (scope : Scope) (f : Func) (xs : List E) (at : Position) →
    bound scope (e.Call f xs) at ≡ (all_found scope (inner at) xs >>= call_node f)
bound_call scope f xs at =
    ap (λ x. bound scope x at) (sym (e.rolls-Call f xs))
    ∙ bound_roll scope (layer.Call f xs) at
    ∙ ap (λ r. r >>= call_node f) (all_are scope (inner at) xs)

pub bound_cv : (scope : Scope) (name : Option (List ℕ)) (at : Position) → bound scope (e.Cv name) at ≡ cv_node scope at name
bound_cv scope name at = ap (λ x. bound scope x at) (sym (e.rolls-Cv name)) ∙ bound_roll scope (layer.Cv name) at

pub bound_turn : (scope : Scope) (at : Position) → bound scope e.Turn at ≡ turn_node scope at
bound_turn scope at = ap (λ x. bound scope x at) (sym e.rolls-Turn) ∙ bound_roll scope layer.Turn at

pub bound_previous : (scope : Scope) (x : E) (at : Position) →
    bound scope (e.Previous x) at ≡ (bound scope x (inner at) >>= previous_node at)
bound_previous scope x at = ap (λ x. bound scope x at) (sym (e.rolls-Previous x)) ∙ bound_roll scope (layer.Previous x) at

pub bound_presentv : (scope : Scope) (xs : List E) (at : Position) →
    bound scope (e.PresentV xs) at ≡ (all_found scope (inner at) xs >>= presentv_node at)
bound_presentv scope xs at =
    ap (λ x. bound scope x at) (sym (e.rolls-PresentV xs))
    ∙ bound_roll scope (layer.PresentV xs) at
    ∙ ap (λ r. r >>= presentv_node at) (all_are scope (inner at) xs)

pub bound_presentnnv : (scope : Scope) (xs : List E) (at : Position) →
    bound scope (e.PresentNnv xs) at ≡ (all_found scope (inner at) xs >>= presentnnv_node at)
bound_presentnnv scope xs at =
    ap (λ x. bound scope x at) (sym (e.rolls-PresentNnv xs))
    ∙ bound_roll scope (layer.PresentNnv xs) at
    ∙ ap (λ r. r >>= presentnnv_node at) (all_are scope (inner at) xs)

-- all cases together
pub ruleset bound_laws = (bound_or, bound_and, bound_not, bound_cmp, bound_between, bound_in, bound_is_null, bound_is_present, bound_is_any, bound_sum, bound_prod, bound_neg, bound_lit, bound_name, bound_cell, bound_agg, bound_count_all, bound_range, bound_cast, bound_call, bound_cv, bound_turn, bound_previous, bound_presentv, bound_presentnnv, bound_case)
