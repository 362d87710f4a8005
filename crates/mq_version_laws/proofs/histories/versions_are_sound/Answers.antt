use Rattle.mq_version_laws.proofs.SoundLemmas.{sound}
use Rattle.mq_version_laws.proofs.histories.versions_are_sound.Goals as goal

pub returns : goal.returns
returns c = sound
