use Rattle.mq_ast.specs.declared.expressions.E.{E}
use Rattle.mq_bind_scopes.specs.declared.scopes.Part.TheVariants as part
use Rattle.mq_bind_expr.specs.ExpressionWalk.{bound}
use Rattle.mq_bind_scopes.specs.Positions.{standing}
use Rattle.mq_bind_expr.specs.StepLemmas.{Walked}
use Rattle.mq_binder.proofs.for_lists.value_row.Given as goal

abbrev pub invariant-row : goal.invariant-row
invariant-row l = Walked (λ (e : E). bound l.scope e (standing part.Left)) l.row l.e-index l.found
