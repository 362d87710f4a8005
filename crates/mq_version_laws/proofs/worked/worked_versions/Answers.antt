use Rattle.mq_version_laws.proofs.WorkedLemmas as worked
use Rattle.mq_version_laws.proofs.worked.worked_versions.Goals as goal

pub returns-clause-versions : goal.returns-clause-versions
returns-clause-versions c = worked.versions_of_sums

pub returns-clause-looks : goal.returns-clause-looks
returns-clause-looks c = worked.looks_of_sums

pub returns-clause-slots : goal.returns-clause-slots
returns-clause-slots c = worked.slots_of_sums

pub returns-clause-affected : goal.returns-clause-affected
returns-clause-affected c = worked.affected_of_sums

pub returns-clause-affected_looks : goal.returns-clause-affected_looks
returns-clause-affected_looks c = worked.affected_looks_of_sums
