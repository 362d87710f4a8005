use Rattle.mq_version_laws.proofs.RunLemmas.{run_is_versions}
use Rattle.mq_version_laws.proofs.runs.runs_are_versions.Goals as goal

pub returns : goal.returns
returns c = run_is_versions
