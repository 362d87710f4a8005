use Rattle.mq_levels.proofs.LevelLemmas.{itself_never}
use Rattle.mq_levels.proofs.laws.nodes_that_read_themselves_are_never_levelled.Goals as goal

pub returns : goal.returns
returns c = itself_never
