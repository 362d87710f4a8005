use Rattle.mq_version_laws.proofs.WorthLemmas.{worth_by_looks}
use Rattle.mq_version_laws.proofs.histories.versions_are_worth_their_looks.Goals as goal

pub returns : goal.returns
returns c = worth_by_looks
