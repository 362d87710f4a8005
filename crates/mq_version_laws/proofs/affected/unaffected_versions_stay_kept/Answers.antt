use Rattle.mq_version_laws.proofs.KeepLemmas.{unaffected_stay_kept}
use Rattle.mq_version_laws.proofs.affected.unaffected_versions_stay_kept.Goals as goal

pub returns : goal.returns
returns c = unaffected_stay_kept c.steps_read_their_looks.ensures c.same_looks_make_the_same_step.ensures
