use Rattle.mq_ast.specs.Laws.OneQueryLemmas.{plain_same}
use Rattle.mq_ast.proofs.laws.one_plain.Goals as goal

pub returns : goal.returns
returns c = λ a b from to to' d d' s s'. plain_same d d' s s'
