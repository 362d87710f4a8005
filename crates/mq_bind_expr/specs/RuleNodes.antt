-- CV, the turn, presence and PREVIOUS, from what their parts are bound to. Outside rules and UNTIL each is a misuse and nothing else.
use Rattle.std.specs.Prelude.{ℕ, List, [], ◌∷◌, Bool, Option, Some, None, Result, Ok, Err, unwrap_or}
use Rattle.mq_lexer.specs.Words.{folded}
use Rattle.mq_values.specs.declared.faults.Refused.{Refused}
use Rattle.mq_ir.specs.declared.expression.Expr.{Expr, out-Expr}
use Rattle.mq_ir.specs.declared.expression.Expr.TheOpen as layer
use Rattle.mq_ir.specs.declared.expression.Expr.TheVariants as expr
use Rattle.mq_ir.specs.declared.expression.Leaf.{Leaf, out-Leaf}
use Rattle.mq_ir.specs.declared.expression.Leaf.TheVariants as leaf
use Rattle.mq_ir.specs.Results.{◌>>=◌}
use Rattle.mq_bind_scopes.specs.declared.kinds.ExprKind.{ExprKind}
use Rattle.mq_bind_scopes.specs.declared.kinds.ExprKind.TheVariants as kind
use Rattle.mq_bind_scopes.specs.declared.misuse_numbers.TheConstants.{MISUSE_OF_REFERENCE_MEASURE, MISUSE_OF_RULE_FORM}
use Rattle.mq_bind_scopes.specs.declared.scopes.Bracket.{Bracket}
use Rattle.mq_bind_scopes.specs.declared.scopes.Found.{Found}
use Rattle.mq_bind_scopes.specs.declared.scopes.Owner.TheVariants as owner
use Rattle.mq_bind_scopes.specs.declared.scopes.Position.{Position}
use Rattle.mq_bind_scopes.specs.declared.scopes.Scope.{Scope}
use Rattle.mq_bind_scopes.specs.Kinds.{common, mismatch}
use Rattle.mq_bind_scopes.specs.Misuses.{cell_out_of_place, cv_out_of_place, outside_rules, previous_outside_until, turn_without_iterate}
use Rattle.mq_bind_expr.specs.NameNodes.{Walked, a_condition, a_value}
use Rattle.mq_bind_scopes.specs.Names.{Name, called}
use Rattle.mq_bind_expr.specs.FunctionNodes.{converted}
use Rattle.mq_bind_scopes.specs.Positions.{place_kind}
use Rattle.mq_bind_scopes.specs.Refusals.{misuse}
use Rattle.mq_bind_expr.specs.CellNodes.{unless_rule_form}

-- CV of a dimension; CV() is that of its place between the brackets of a measure of the main model
abbrev pub cv_of_place : Scope → Option Bracket → Walked
cv_of_place scope None = Err (misuse MISUSE_OF_RULE_FORM)
cv_of_place scope (Some b) = elim b.owner [
  | owner.Main ↦ Ok (a_value (expr.Leaf (leaf.Cv b.place)) (unwrap_or (place_kind scope owner.Main b.place) kind.Null))
  | _ ↦ Err (misuse MISUSE_OF_RULE_FORM)
]

abbrev pub cv_called : Scope → Position → Option Name → Walked
cv_called scope at None = unless_rule_form (cv_out_of_place at) (cv_of_place scope at.bracket)
cv_called scope at (Some name) =
    called (folded name) scope.model.dims >>= (λ d. unless_rule_form (cv_out_of_place at) (Ok (a_value (expr.Leaf (leaf.Cv d.0)) d.1)))

abbrev pub cv_node : Scope → Position → Option Name → Walked
cv_node scope at name = unless_rule_form (outside_rules at) (cv_called scope at name)

-- ITERATION_NUMBER
abbrev pub turn_node : Scope → Position → Walked
turn_node scope at = unless_rule_form (turn_without_iterate scope at) (Ok (a_value (expr.Leaf leaf.Turn) (kind.Number 0)))

-- a single cell of the main model: its measure and its indices
abbrev pub leaf_cell : Leaf → Result (ℕ × List Expr) Refused
leaf_cell l = elim (out-Leaf l) [
  | layer.Cell m indices ↦ Ok (m, indices)
  | layer.RefCell n m indices ↦ Err (misuse MISUSE_OF_REFERENCE_MEASURE)
  | _ ↦ Err (misuse MISUSE_OF_RULE_FORM)
]

-- the misuse of a leaf that is none
abbrev pub cell_fault : Leaf → ℕ
cell_fault l = elim (out-Leaf l) [ layer.RefCell n m indices ↦ MISUSE_OF_REFERENCE_MEASURE | _ ↦ MISUSE_OF_RULE_FORM ]

abbrev pub single_cell : Expr → Result (ℕ × List Expr) Refused
single_cell e = elim (out-Expr e) [ layer.Leaf l ↦ leaf_cell l | _ ↦ Err (misuse MISUSE_OF_RULE_FORM) ]

abbrev pub present_node : Position → Bool → Found → Walked
present_node at negated c =
    unless_rule_form (outside_rules at) (
    unless_rule_form (cell_out_of_place at) (
    single_cell c.e >>= (λ cell. Ok (a_condition (expr.IsPresent (leaf.Present cell.1) negated)))))

abbrev pub previous_node : Position → Found → Walked
previous_node at c =
    unless_rule_form (previous_outside_until at) (single_cell c.e >>= (λ cell. Ok (a_value (expr.Leaf (leaf.Previous cell.0 cell.1)) c.kind)))

-- the kind of the two results, and whether the form may stand here
abbrev pub presence_kind : Position → ExprKind → ExprKind → Result ExprKind Refused
presence_kind at a b =
    unless_rule_form (outside_rules at) (common (a ∷ b ∷ []) >>= (λ k. unless_rule_form (cell_out_of_place at) (Ok k)))

abbrev pub presentv_of : List Expr → Expr → Expr → Expr
presentv_of indices a b = expr.PresentV (leaf.Present indices) a b

abbrev pub presentnnv_of : ℕ → List Expr → Expr → Expr → Expr
presentnnv_of m indices a b = expr.PresentNnv (leaf.Present indices) (leaf.NotNull m indices) a b

-- another number of arguments than three
abbrev pub other_presence : Position → Walked
other_presence at = unless_rule_form (outside_rules at) mismatch

-- the cell, the result where it is present, and the other one
abbrev pub presentv_node : Position → List Found → Walked
presentv_node at (c ∷ a ∷ b ∷ []) =
    presence_kind at a.kind b.kind >>= (λ k.
    single_cell c.e >>= (λ cell. Ok (a_value (presentv_of cell.1 (converted k a.e) (converted k b.e)) k)))
presentv_node at _ = other_presence at

abbrev pub presentnnv_node : Position → List Found → Walked
presentnnv_node at (c ∷ a ∷ b ∷ []) =
    presence_kind at a.kind b.kind >>= (λ k.
    single_cell c.e >>= (λ cell. Ok (a_value (presentnnv_of cell.0 cell.1 (converted k a.e) (converted k b.e)) k)))
presentnnv_node at _ = other_presence at
