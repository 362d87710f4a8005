use Rattle.mq_change_laws.proofs.LawLemmas.{value_stays}
use Rattle.mq_change_laws.proofs.unaffected.values_stay.Goals as goal

pub returns : goal.returns
returns c = value_stays c.steps_read_their_looks.ensures c.same_looks_make_the_same_step.ensures
