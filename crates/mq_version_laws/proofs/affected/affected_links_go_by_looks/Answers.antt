use Rattle.mq_version_laws.proofs.KeepLemmas.{links_by_looks}
use Rattle.mq_version_laws.proofs.affected.affected_links_go_by_looks.Goals as goal

pub returns : goal.returns
returns c = links_by_looks
