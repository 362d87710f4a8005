-- What operators and literals are bound to, case by case.
use Rattle.std.specs.Prelude.{◌≡◌, List, Bool, Ok}
use Rattle.std.proofs.Common.{sym, ap, ◌∙◌}
use Rattle.mq_values.specs.declared.operators.CmpOp.{CmpOp}
use Rattle.mq_values.specs.declared.value.Value.{Value}
use Rattle.mq_ast.specs.declared.expressions.E.{E}
use Rattle.mq_ast.specs.declared.expressions.E.TheOpen as layer
use Rattle.mq_ast.specs.declared.expressions.E.TheVariants as e
use Rattle.mq_ast.specs.declared.expressions.ProdTerm.{ProdTerm}
use Rattle.mq_ast.specs.declared.expressions.SumTerm.{SumTerm}
use Rattle.mq_ir.specs.Results.{◌>>=◌, each}
use Rattle.mq_bind_scopes.specs.declared.scopes.Position.{Position}
use Rattle.mq_bind_scopes.specs.declared.scopes.Scope.{Scope}
use Rattle.mq_bind_expr.specs.CellNodes.{unless_rule_form}
use Rattle.mq_bind_expr.specs.RuleNodes.{present_node}
use Rattle.mq_bind_expr.specs.ExpressionParts.{all_are, all_found, prod_found, prods_are, sum_found, sums_are}
use Rattle.mq_bind_expr.specs.ExpressionRolls.{bound_roll}
use Rattle.mq_bind_expr.specs.ExpressionWalk.{bound}
use Rattle.mq_bind_scopes.specs.Misuses.{any_inside_place}
use Rattle.mq_bind_expr.specs.NameNodes.{a_condition}
use Rattle.mq_bind_expr.specs.OperatorNodes.{and_node, between_node, cmp_node, in_node, lit_node, neg_node, not_node, null_node, or_node, prod_node, sum_node}
use Rattle.mq_bind_scopes.specs.Positions.{inner}

pub bound_or : (scope : Scope) (xs : List E) (at : Position) → bound scope (e.Or xs) at ≡ (all_found scope (inner at) xs >>= or_node)
bound_or scope xs at =
    ap (λ x. bound scope x at) (sym (e.rolls-Or xs))
    ∙ bound_roll scope (layer.Or xs) at
    ∙ ap (λ r. r >>= or_node) (all_are scope (inner at) xs)

pub bound_and : (scope : Scope) (xs : List E) (at : Position) → bound scope (e.And xs) at ≡ (all_found scope (inner at) xs >>= and_node)
bound_and scope xs at =
    ap (λ x. bound scope x at) (sym (e.rolls-And xs))
    ∙ bound_roll scope (layer.And xs) at
    ∙ ap (λ r. r >>= and_node) (all_are scope (inner at) xs)

pub bound_not : (scope : Scope) (x : E) (at : Position) → bound scope (e.Not x) at ≡ (bound scope x (inner at) >>= not_node)
bound_not scope x at = ap (λ x. bound scope x at) (sym (e.rolls-Not x)) ∙ bound_roll scope (layer.Not x) at

pub bound_cmp : (scope : Scope) (x : E) (op : CmpOp) (y : E) (at : Position) →
    bound scope (e.Cmp x op y) at ≡ (bound scope x (inner at) >>= (λ f. bound scope y (inner at) >>= cmp_node op f))
bound_cmp scope x op y at = ap (λ x. bound scope x at) (sym (e.rolls-Cmp x op y)) ∙ bound_roll scope (layer.Cmp x op y) at

pub bound_between : (scope : Scope) (x : E) (negated : Bool) (y : E) (z : E) (at : Position) →
    bound scope (e.Between x negated y z) at ≡
    (bound scope x (inner at) >>= (λ f. bound scope y (inner at) >>= (λ g. bound scope z (inner at) >>= between_node negated f g)))
bound_between scope x negated y z at =
    ap (λ x. bound scope x at) (sym (e.rolls-Between x negated y z))
    ∙ bound_roll scope (layer.Between x negated y z) at

pub bound_in : (scope : Scope) (x : E) (negated : Bool) (xs : List E) (at : Position) →
    bound scope (e.InList x negated xs) at ≡ (bound scope x (inner at) >>= (λ f. all_found scope (inner at) xs >>= in_node negated f))
bound_in scope x negated xs at =
    ap (λ x. bound scope x at) (sym (e.rolls-InList x negated xs))
    ∙ bound_roll scope (layer.InList x negated xs) at
    ∙ ap (λ r. bound scope x (inner at) >>= (λ f. r >>= in_node negated f)) (all_are scope (inner at) xs)

pub bound_is_null : (scope : Scope) (x : E) (negated : Bool) (at : Position) →
    bound scope (e.IsNull x negated) at ≡ (bound scope x (inner at) >>= null_node negated)
bound_is_null scope x negated at =
    ap (λ x. bound scope x at) (sym (e.rolls-IsNull x negated))
    ∙ bound_roll scope (layer.IsNull x negated) at

pub bound_is_present : (scope : Scope) (x : E) (negated : Bool) (at : Position) →
    bound scope (e.IsPresent x negated) at ≡ (bound scope x (inner at) >>= present_node at negated)
bound_is_present scope x negated at =
    ap (λ x. bound scope x at) (sym (e.rolls-IsPresent x negated))
    ∙ bound_roll scope (layer.IsPresent x negated) at

pub bound_is_any : (scope : Scope) (x : E) (at : Position) →
    bound scope (e.IsAny x) at ≡ (bound scope x (inner at) >>= (λ f. unless_rule_form (any_inside_place at) (Ok (a_condition f.e))))
bound_is_any scope x at = ap (λ x. bound scope x at) (sym (e.rolls-IsAny x)) ∙ bound_roll scope (layer.IsAny x) at

pub bound_sum : (scope : Scope) (x : E) (ts : List SumTerm) (at : Position) →
    bound scope (e.Sum x ts) at ≡ (bound scope x (inner at) >>= (λ f. each (sum_found scope (inner at)) ts >>= sum_node f))
bound_sum scope x ts at =
    ap (λ x. bound scope x at) (sym (e.rolls-Sum x ts))
    ∙ bound_roll scope (layer.Sum x ts) at
    ∙ ap (λ r. bound scope x (inner at) >>= (λ f. r >>= sum_node f)) (sums_are scope (inner at) ts)

pub bound_prod : (scope : Scope) (x : E) (ts : List ProdTerm) (at : Position) →
    bound scope (e.Prod x ts) at ≡ (bound scope x (inner at) >>= (λ f. each (prod_found scope (inner at)) ts >>= prod_node f))
bound_prod scope x ts at =
    ap (λ x. bound scope x at) (sym (e.rolls-Prod x ts))
    ∙ bound_roll scope (layer.Prod x ts) at
    ∙ ap (λ r. bound scope x (inner at) >>= (λ f. r >>= prod_node f)) (prods_are scope (inner at) ts)

pub bound_neg : (scope : Scope) (x : E) (at : Position) → bound scope (e.Neg x) at ≡ (bound scope x (inner at) >>= neg_node)
bound_neg scope x at = ap (λ x. bound scope x at) (sym (e.rolls-Neg x)) ∙ bound_roll scope (layer.Neg x) at

pub bound_lit : (scope : Scope) (v : Value) (at : Position) → bound scope (e.Lit v) at ≡ Ok (lit_node v)
bound_lit scope v at = ap (λ x. bound scope x at) (sym (e.rolls-Lit v)) ∙ bound_roll scope (layer.Lit v) at
