use Rattle.mq_version_laws.proofs.KeepLemmas.{unaffected_keep}
use Rattle.mq_version_laws.proofs.affected.unaffected_versions_keep.Goals as goal

pub returns : goal.returns
returns c = unaffected_keep c.steps_read_their_looks.ensures c.same_looks_make_the_same_step.ensures
