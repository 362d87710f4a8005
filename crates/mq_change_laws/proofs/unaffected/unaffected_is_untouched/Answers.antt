use Rattle.mq_change_laws.proofs.LawLemmas.{unaffected_untouched}
use Rattle.mq_change_laws.proofs.unaffected.unaffected_is_untouched.Goals as goal

pub returns : goal.returns
returns c = unaffected_untouched
