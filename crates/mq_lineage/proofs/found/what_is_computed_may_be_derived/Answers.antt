use Rattle.mq_lineage.proofs.FoundLemmas.{may_be_derived}
use Rattle.mq_lineage.proofs.found.what_is_computed_may_be_derived.Goals as goal

pub returns : goal.returns
returns c = may_be_derived
