use Rattle.mq_ast.specs.declared.expressions.E.{E}
use Rattle.mq_bind_expr.specs.ExpressionWalk.{bound}
use Rattle.mq_bind_expr.specs.StepLemmas.{Walked}
use Rattle.mq_bind_expr.proofs.walk.bound_each.Given as goal

abbrev pub invariant-es : goal.invariant-es
invariant-es l = Walked (λ (e : E). bound l.scope e l.at) l.es l.e-index l.found
