use Rattle.mq_version_laws.proofs.KeptLemmas.{versions_wide}
use Rattle.mq_version_laws.proofs.kept.versions_are_wide.Goals as goal

pub returns : goal.returns
returns c = versions_wide
