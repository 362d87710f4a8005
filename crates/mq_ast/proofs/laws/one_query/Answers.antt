use Rattle.mq_ast.specs.Laws.OneModelLemmas.{query_same}
use Rattle.mq_ast.proofs.laws.one_query.Goals as goal

pub returns : goal.returns
returns c = λ a b from to to' d d' s s'. query_same d d' s s'
