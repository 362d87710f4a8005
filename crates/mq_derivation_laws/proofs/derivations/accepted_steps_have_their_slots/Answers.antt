use Rattle.mq_derivation_laws.proofs.StepLemmas.{accepted_slots}
use Rattle.mq_derivation_laws.proofs.derivations.accepted_steps_have_their_slots.Goals as goal

pub returns : goal.returns
returns c = accepted_slots c.steps_read_their_looks.ensures
