use Rattle.mq_ast.specs.Laws.OneExpressionLemmas.{test_same, not_same}
use Rattle.mq_ast.proofs.laws.one_test.Goals as goal

pub returns-clause-test : goal.returns-clause-test
returns-clause-test c = λ a b from to to' d d' s s'. test_same d d' s s'

pub returns-clause-negated : goal.returns-clause-negated
returns-clause-negated c = λ a b from to to' d d' s s'. not_same d d' s s'
