use Rattle.mq_ast.specs.Laws.OneExpressionLemmas.{and_same}
use Rattle.mq_ast.proofs.laws.one_conjunction.Goals as goal

pub returns : goal.returns
returns c = λ a b from to to' d d' s s'. and_same d d' s s'
