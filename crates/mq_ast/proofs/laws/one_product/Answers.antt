use Rattle.mq_ast.specs.Laws.OneExpressionLemmas.{prod_same}
use Rattle.mq_ast.proofs.laws.one_product.Goals as goal

pub returns : goal.returns
returns c = λ a b from to to' d d' s s'. prod_same d d' s s'
