use Rattle.mq_binder.proofs.AnswerLemmas.{kind_of_tree}
use Rattle.mq_binder.proofs.laws.kinds_are_of_trees.Goals as goal

pub returns : goal.returns
returns c = kind_of_tree
