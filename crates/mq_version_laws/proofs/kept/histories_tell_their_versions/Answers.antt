use Rattle.mq_version_laws.proofs.KeptLemmas.{history_tells}
use Rattle.mq_version_laws.proofs.kept.histories_tell_their_versions.Goals as goal

pub returns : goal.returns
returns c = history_tells
