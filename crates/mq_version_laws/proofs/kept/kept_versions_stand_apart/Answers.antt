use Rattle.mq_version_laws.proofs.KeptLemmas.{kept_apart}
use Rattle.mq_version_laws.proofs.kept.kept_versions_stand_apart.Goals as goal

pub returns : goal.returns
returns c = kept_apart
