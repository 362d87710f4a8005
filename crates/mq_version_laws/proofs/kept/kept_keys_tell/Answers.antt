use Rattle.mq_version_laws.proofs.KeptLemmas.{kept_tells}
use Rattle.mq_version_laws.proofs.kept.kept_keys_tell.Goals as goal

pub returns : goal.returns
returns c = kept_tells
