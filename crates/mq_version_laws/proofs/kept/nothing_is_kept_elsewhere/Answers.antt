use Rattle.mq_version_laws.proofs.KeptLemmas.{nothing_elsewhere}
use Rattle.mq_version_laws.proofs.kept.nothing_is_kept_elsewhere.Goals as goal

pub returns : goal.returns
returns c = nothing_elsewhere
