use Rattle.mq_levels.proofs.LevelLemmas.{stays}
use Rattle.mq_levels.proofs.laws.what_is_levelled_stays_levelled.Goals as goal

pub returns : goal.returns
returns c = stays
