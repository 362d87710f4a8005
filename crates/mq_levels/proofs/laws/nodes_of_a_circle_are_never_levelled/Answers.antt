use Rattle.mq_levels.proofs.LevelLemmas.{circle_never}
use Rattle.mq_levels.proofs.laws.nodes_of_a_circle_are_never_levelled.Goals as goal

pub returns : goal.returns
returns c = circle_never
