-- The walk over an expression. ExpressionLaws has it case by case.
use Rattle.std.specs.Prelude.{not, Option, Some, None, Result, Ok}
use Rattle.mq_values.specs.declared.faults.Refused.{Refused}
use Rattle.mq_ast.specs.declared.expressions.E.{E, para-E}
use Rattle.mq_ir.specs.declared.expression.Expr.{Expr}
use Rattle.mq_ir.specs.Results.{◌>>=◌}
use Rattle.mq_bind_scopes.specs.declared.kinds.ExprKind.{ExprKind}
use Rattle.mq_bind_scopes.specs.declared.scopes.Found.{Found}
use Rattle.mq_bind_scopes.specs.declared.scopes.Position.{Position}
use Rattle.mq_bind_scopes.specs.declared.scopes.Scope.{Scope}
use Rattle.mq_bind_expr.specs.NameNodes.{Walked}
use Rattle.mq_bind_expr.specs.OperatorNodes.{is_condition_found}
use Rattle.mq_bind_scopes.specs.Refusals.{kind_mismatch, refused_where}
use Rattle.mq_bind_expr.specs.ExpressionLayers.{layer_bound, layer_place, layer_arm, layer_prod, layer_sum}
use Rattle.mq_bind_expr.specs.ExpressionVisits.{Meaning, PlaceMeaning, ArmMeaning}

-- What an expression is bound to where it stands, or the first offence in it.
unfoldable pub bound : Scope → E → Meaning
bound scope =
    para-E Meaning PlaceMeaning ArmMeaning Meaning Meaning
    (layer_bound scope) (layer_place scope) layer_arm layer_prod layer_sum

-- a value, or a condition, where one is needed
abbrev pub needs_value : Found → Walked
needs_value f = refused_where (is_condition_found f) kind_mismatch (Ok f)

abbrev pub needs_condition : Found → Result Expr Refused
needs_condition f = refused_where (not (is_condition_found f)) kind_mismatch (Ok f.e)

abbrev pub bound_value : Scope → Position → E → Walked
bound_value scope at e = bound scope e at >>= needs_value

abbrev pub bound_condition : Scope → Position → E → Result Expr Refused
bound_condition scope at e = bound scope e at >>= needs_condition

abbrev pub bound_filter : Scope → Position → Option E → Result (Option Expr) Refused
bound_filter scope at None = Ok None
bound_filter scope at (Some e) = bound_condition scope at e >>= (λ c. Ok (Some c))

-- the kind of an expression where it stands, which its tree alone determines
abbrev pub kind_of : Scope → Position → E → Result ExprKind Refused
kind_of scope at e = bound scope e at >>= (λ f. Ok f.kind)
