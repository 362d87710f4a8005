use Rattle.mq_change_laws.proofs.LawLemmas.{level_stays}
use Rattle.mq_change_laws.proofs.unaffected.levels_stay.Goals as goal

pub returns : goal.returns
returns c = level_stays c.steps_read_their_looks.ensures c.same_looks_make_the_same_step.ensures
