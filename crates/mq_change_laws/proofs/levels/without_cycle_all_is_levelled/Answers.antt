use Rattle.mq_change_laws.specs.CycleLaws.{no_cycle_levels_all}
use Rattle.mq_change_laws.proofs.levels.without_cycle_all_is_levelled.Goals as goal

pub returns : goal.returns
returns c = no_cycle_levels_all
