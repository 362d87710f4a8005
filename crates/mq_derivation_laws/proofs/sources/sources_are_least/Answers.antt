use Rattle.mq_derivation_laws.proofs.SourceLemmas.{least_sources}
use Rattle.mq_derivation_laws.proofs.sources.sources_are_least.Goals as goal

pub returns : goal.returns
returns c = least_sources
