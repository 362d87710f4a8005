-- What PRESENTNNV asks of its arguments before its bound form is made, which names the indices of its cell twice.
use Rattle.std.specs.Prelude.{ℕ, List, [], ◌∷◌, Result, Ok}
use Rattle.mq_values.specs.declared.faults.Refused.{Refused}
use Rattle.mq_ir.specs.declared.expression.Expr.{Expr}
use Rattle.mq_ir.specs.declared.expression.Leaf.{Leaf}
use Rattle.mq_ir.specs.Results.{◌>>=◌}
use Rattle.mq_bind_scopes.specs.declared.kinds.ExprKind.{ExprKind}
use Rattle.mq_bind_scopes.specs.declared.scopes.Found.{Found}
use Rattle.mq_bind_scopes.specs.declared.scopes.Position.{Position}
use Rattle.mq_bind_expr.specs.CellNodes.{unless_rule_form}
use Rattle.mq_bind_scopes.specs.Kinds.{mismatch}
use Rattle.mq_bind_scopes.specs.Misuses.{outside_rules}
use Rattle.mq_bind_expr.specs.RuleNodes.{leaf_cell, presence_kind, single_cell}

-- the measure of a single cell of the main model
abbrev pub leaf_measure : Leaf → Result ℕ Refused
leaf_measure l = leaf_cell l >>= (λ cell. Ok cell.0)

abbrev pub cell_measure : Expr → Result ℕ Refused
cell_measure e = single_cell e >>= (λ cell. Ok cell.0)

-- the kind of the whole, and the measure of the cell
abbrev pub presence_asked : Position → List Found → Result (ExprKind × ℕ) Refused
presence_asked at (c ∷ a ∷ b ∷ []) = presence_kind at a.kind b.kind >>= (λ k. cell_measure c.e >>= (λ measure. Ok (k, measure)))
presence_asked at _ = unless_rule_form (outside_rules at) mismatch
