use Rattle.mq_version_laws.proofs.HistoryLemmas.{has_versions, see_no_value}
use Rattle.mq_version_laws.proofs.runs.versions_see_no_value.Goals as goal

pub returns-clause-history : goal.returns-clause-history
returns-clause-history c = has_versions

pub returns-clause-values : goal.returns-clause-values
returns-clause-values c = see_no_value
