use Rattle.mq_version_laws.proofs.ReachedLemmas.{least}
use Rattle.mq_version_laws.proofs.affected.affected_versions_are_least.Goals as goal

pub returns : goal.returns
returns c = least
