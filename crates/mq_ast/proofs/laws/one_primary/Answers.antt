use Rattle.mq_ast.specs.Laws.OneExpressionLemmas.{prim_same, sign_same}
use Rattle.mq_ast.proofs.laws.one_primary.Goals as goal

pub returns-clause-primary : goal.returns-clause-primary
returns-clause-primary c = λ a b from to to' d d' s s'. prim_same d d' s s'

pub returns-clause-signed : goal.returns-clause-signed
returns-clause-signed c = λ a b from to to' d d' s s'. sign_same d d' s s'
