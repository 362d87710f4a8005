-- The nodes of functions and of CASE, from what their operands are bound to.
use Rattle.std.specs.Prelude.{List, [], ◌∷◌, map, Bool, true, false, not, if◌then◌else◌, Option, Some, None, Result, Ok}
use Rattle.std.specs.List.{list_all}
use Rattle.std.specs.Option.{option_map, option_map_or}
use Rattle.mq_values.specs.declared.operators.Func.{Func}
use Rattle.mq_values.specs.declared.operators.Func.TheVariants as func
use Rattle.mq_values.specs.declared.faults.Refused.{Refused}
use Rattle.mq_ir.specs.declared.expression.BoundArm.{BoundArm}
use Rattle.mq_ir.specs.declared.expression.Expr.{Expr}
use Rattle.mq_ir.specs.declared.expression.Expr.TheVariants as expr
use Rattle.mq_ir.specs.Results.{◌>>=◌}
use Rattle.mq_bind_scopes.specs.declared.kinds.ExprKind.{ExprKind}
use Rattle.mq_bind_scopes.specs.declared.kinds.ExprKind.TheVariants as kind
use Rattle.mq_bind_scopes.specs.declared.scopes.Found.{Found}
use Rattle.mq_bind_scopes.specs.OperatorKinds.{call_kind}
use Rattle.mq_bind_scopes.specs.Kinds.{column_kind, common, common_from, is_condition_kind}
use Rattle.mq_bind_expr.specs.NameNodes.{Walked, a_value}
use Rattle.mq_bind_scopes.specs.Refusals.{kind_mismatch, refused_where}
use Rattle.mq_bind_expr.specs.OperatorNodes.{exprs_of, kinds_of}

-- a result is brought to the kind of the whole, but where that is NULL
abbrev pub converted : ExprKind → Expr → Expr
converted k e = option_map_or (expr.Convert e) (column_kind k) e

abbrev pub converted_found : ExprKind → Found → Expr
converted_found k f = converted k f.e

abbrev pub converted_all : ExprKind → List Found → List Expr
converted_all k = map (converted_found k)

-- the results of NVL are its arguments
abbrev pub is_nvl : Func → Bool
is_nvl func.Nvl = true
is_nvl _ = false

abbrev pub arguments_of : Func → ExprKind → List Found → List Expr
arguments_of f k fs = if is_nvl f then converted_all k fs else exprs_of fs

abbrev pub call_node : Func → List Found → Walked
call_node f fs = call_kind f (kinds_of fs) >>= (λ k. Ok (a_value (expr.Call f (arguments_of f k fs)) k))

-- An arm of CASE: its test and its result. Without a first expression the tests are conditions; else they are compared with it.
abbrev pub ArmFound : Type 0
ArmFound = Found × Found

abbrev pub test_kind : ArmFound → ExprKind
test_kind a = a.0.kind

abbrev pub result_kind : ArmFound → ExprKind
result_kind a = a.1.kind

abbrev pub tests_truth : ArmFound → Bool
tests_truth a = is_condition_kind a.0.kind

abbrev pub tests_fit : Option Found → List ArmFound → Result ExprKind Refused
tests_fit None arms = refused_where (not (list_all tests_truth arms)) kind_mismatch (Ok kind.Condition)
tests_fit (Some subject) arms = common (subject.kind ∷ map test_kind arms)

-- the kind of all results
abbrev pub kinds_if_any : Option Found → List ExprKind
kinds_if_any None = []
kinds_if_any (Some f) = f.kind ∷ []

abbrev pub results_kind : List ArmFound → Option Found → Result ExprKind Refused
results_kind arms or_else = common (map result_kind arms) >>= (λ k. common_from k (kinds_if_any or_else))

abbrev pub bound_arm : ExprKind → ArmFound → BoundArm
bound_arm k a = record { test = a.0.e; value = converted k a.1.e }

abbrev pub bound_arms : ExprKind → List ArmFound → List BoundArm
bound_arms k = map (bound_arm k)

abbrev pub expr_found : Found → Expr
expr_found f = f.e

abbrev pub case_of : ExprKind → Option Found → List ArmFound → Option Found → Expr
case_of k subject arms or_else = expr.Case (option_map expr_found subject) (bound_arms k arms) (option_map (converted_found k) or_else)

abbrev pub case_kind : Option Found → List ArmFound → Option Found → Result ExprKind Refused
case_kind subject arms or_else = tests_fit subject arms >>= (λ compared. results_kind arms or_else)

abbrev pub case_node : Option Found → List ArmFound → Option Found → Walked
case_node subject arms or_else = case_kind subject arms or_else >>= (λ k. Ok (a_value (case_of k subject arms or_else) k))
