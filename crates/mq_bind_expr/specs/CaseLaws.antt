-- What CASE is bound to.
use Rattle.std.specs.Prelude.{◌≡◌, List, Option, Some, None, Result, Ok}
use Rattle.std.proofs.Common.{sym, ap, ◌∙◌}
use Rattle.mq_values.specs.declared.faults.Refused.{Refused}
use Rattle.mq_ast.specs.declared.expressions.Arm.{Arm}
use Rattle.mq_ast.specs.declared.expressions.E.{E}
use Rattle.mq_ast.specs.declared.expressions.E.TheOpen as layer
use Rattle.mq_ast.specs.declared.expressions.E.TheVariants as e
use Rattle.mq_ir.specs.Results.{◌>>=◌, each}
use Rattle.mq_bind_scopes.specs.declared.scopes.Found.{Found}
use Rattle.mq_bind_scopes.specs.declared.scopes.Position.{Position}
use Rattle.mq_bind_scopes.specs.declared.scopes.Scope.{Scope}
use Rattle.mq_bind_expr.specs.ExpressionParts.{arms_are}
use Rattle.mq_bind_expr.specs.ExpressionRolls.{arm_found, bound_roll}
use Rattle.mq_bind_expr.specs.ExpressionWalk.{bound}
use Rattle.mq_bind_expr.specs.NameNodes.{Walked}
use Rattle.mq_bind_expr.specs.FunctionNodes.{case_node}
use Rattle.mq_bind_scopes.specs.Positions.{inner}

-- a part that may be left out
abbrev pub found_if_any : Scope → Position → Option E → Result (Option Found) Refused
found_if_any scope at None = Ok None
found_if_any scope at (Some x) = bound scope x at >>= (λ f. Ok (Some f))

-- CASE: the first expression, the arms, and what stands behind ELSE
abbrev pub case_found : Scope → Position → Option E → Result (List (Found × Found)) Refused → Option E → Walked
case_found scope at of arms or_else =
    found_if_any scope at of >>= (λ subject. arms >>= (λ found. found_if_any scope at or_else >>= case_node subject found))

pub bound_case : (scope : Scope) (of : Option E) (arms : List Arm) (or_else : Option E) (at : Position) →
    bound scope (e.Case of arms or_else) at ≡ case_found scope (inner at) of (each (arm_found scope (inner at)) arms) or_else
bound_case scope None arms None at =
    ap (λ x. bound scope x at) (sym (e.rolls-Case None arms None)) ∙ bound_roll scope (layer.Case None arms None) at
    ∙ ap (λ r. case_found scope (inner at) None r None) (arms_are scope (inner at) arms)
bound_case scope None arms (Some y) at =
    ap (λ x. bound scope x at) (sym (e.rolls-Case None arms (Some y))) ∙ bound_roll scope (layer.Case None arms (Some y)) at
    ∙ ap (λ r. case_found scope (inner at) None r (Some y)) (arms_are scope (inner at) arms)
bound_case scope (Some x) arms None at =
    ap (λ x. bound scope x at) (sym (e.rolls-Case (Some x) arms None)) ∙ bound_roll scope (layer.Case (Some x) arms None) at
    ∙ ap (λ r. case_found scope (inner at) (Some x) r None) (arms_are scope (inner at) arms)
bound_case scope (Some x) arms (Some y) at =
    ap (λ x. bound scope x at) (sym (e.rolls-Case (Some x) arms (Some y))) ∙ bound_roll scope (layer.Case (Some x) arms (Some y)) at
    ∙ ap (λ r. case_found scope (inner at) (Some x) r (Some y)) (arms_are scope (inner at) arms)
