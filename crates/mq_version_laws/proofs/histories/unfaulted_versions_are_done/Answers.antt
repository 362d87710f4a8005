use Rattle.mq_version_laws.proofs.WorthLemmas.{unfaulted_done}
use Rattle.mq_version_laws.proofs.histories.unfaulted_versions_are_done.Goals as goal

pub returns : goal.returns
returns c = unfaulted_done
