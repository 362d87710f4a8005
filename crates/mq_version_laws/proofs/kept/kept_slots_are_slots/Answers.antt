use Rattle.mq_version_laws.proofs.KeptLemmas.{kept_slots_are}
use Rattle.mq_version_laws.proofs.kept.kept_slots_are_slots.Goals as goal

pub returns : goal.returns
returns c = kept_slots_are
