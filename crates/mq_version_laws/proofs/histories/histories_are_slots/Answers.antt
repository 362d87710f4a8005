use Rattle.mq_version_laws.proofs.WorthLemmas.{history_slots}
use Rattle.mq_version_laws.proofs.histories.histories_are_slots.Goals as goal

pub returns : goal.returns
returns c = history_slots
