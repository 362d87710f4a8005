use Rattle.mq_derivation_laws.proofs.GivenLemmas.{has_sources}
use Rattle.mq_derivation_laws.proofs.derivations.derivations_have_the_sources.Goals as goal

pub returns : goal.returns
returns c = λ model shape input target name. has_sources model shape target input name
