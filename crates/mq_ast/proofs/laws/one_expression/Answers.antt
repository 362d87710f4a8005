use Rattle.mq_ast.specs.Laws.OneExpressionLemmas.{expr_same}
use Rattle.mq_ast.proofs.laws.one_expression.Goals as goal

pub returns : goal.returns
returns c = λ a b from to to' d d' s s'. expr_same d d' s s'
