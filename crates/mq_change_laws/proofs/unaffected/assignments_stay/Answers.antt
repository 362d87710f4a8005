use Rattle.mq_change_laws.proofs.LawLemmas.{assignment_stays}
use Rattle.mq_change_laws.proofs.unaffected.assignments_stay.Goals as goal

pub returns : goal.returns
returns c = assignment_stays
