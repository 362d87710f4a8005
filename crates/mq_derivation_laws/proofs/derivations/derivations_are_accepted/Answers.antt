use Rattle.mq_derivation_laws.proofs.AcceptedLemmas.{derivation_accepted}
use Rattle.mq_derivation_laws.proofs.derivations.derivations_are_accepted.Goals as goal

pub returns : goal.returns
returns c = derivation_accepted c.steps_read_their_looks.ensures
