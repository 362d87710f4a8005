use Rattle.mq_ast.specs.Laws.OneExpressionLemmas.{sum_same}
use Rattle.mq_ast.proofs.laws.one_sum.Goals as goal

pub returns : goal.returns
returns c = λ a b from to to' d d' s s'. sum_same d d' s s'
