use Rattle.mq_version_laws.proofs.ReachedLemmas.{by_looks}
use Rattle.mq_version_laws.proofs.affected.affected_versions_go_by_looks.Goals as goal

pub returns : goal.returns
returns c = by_looks
