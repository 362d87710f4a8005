use Rattle.mq_levels.proofs.LevelLemmas.{last_at_length, same_later}
use Rattle.mq_levels.proofs.laws.as_many_rounds_as_nodes_are_enough.Goals as goal

pub returns : goal.returns
returns c = λ reads h later node m l. same_later reads h _ (last_at_length reads h) later node m l
