use Rattle.mq_change_laws.proofs.LawLemmas.{cycle_affected}
use Rattle.mq_change_laws.proofs.affected.cycles_are_affected.Goals as goal

pub returns : goal.returns
returns c = cycle_affected c.steps_read_their_looks.ensures c.same_looks_make_the_same_step.ensures
