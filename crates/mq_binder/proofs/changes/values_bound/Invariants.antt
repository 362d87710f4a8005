use Rattle.mq_ast.specs.declared.expressions.E.{E}
use Rattle.mq_bind_scopes.specs.declared.scopes.Part.TheVariants as part
use Rattle.mq_bind_expr.specs.ExpressionWalk.{bound}
use Rattle.mq_bind_scopes.specs.Positions.{standing}
use Rattle.mq_bind_expr.specs.StepLemmas.{Walked}
use Rattle.mq_binder.proofs.changes.values_bound.Given as goal

abbrev pub invariant-es : goal.invariant-es
invariant-es l = Walked (λ (e : E). bound l.scope e (standing part.Row)) l.es l.e-index l.found
