use Rattle.mq_version_laws.proofs.ReachedLemmas.{same_keys}
use Rattle.mq_version_laws.proofs.affected.same_keys_seed_none.Goals as goal

pub returns : goal.returns
returns c = same_keys
