use Rattle.mq_change_laws.proofs.LawLemmas.{result_stays}
use Rattle.mq_change_laws.proofs.unaffected.results_stay.Goals as goal

pub returns : goal.returns
returns c = result_stays c.steps_read_their_looks.ensures c.same_looks_make_the_same_step.ensures
