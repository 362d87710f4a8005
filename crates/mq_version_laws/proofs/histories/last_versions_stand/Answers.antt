use Rattle.mq_version_laws.proofs.WorthLemmas.{last_stands}
use Rattle.mq_version_laws.proofs.histories.last_versions_stand.Goals as goal

pub returns : goal.returns
returns c = last_stands
